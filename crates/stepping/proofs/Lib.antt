-- The laws of one instruction.
pub mod Pushing
pub mod Stepping
