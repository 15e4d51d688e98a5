-- The laws of an operator of a run.
pub mod Putting
pub mod Operating
