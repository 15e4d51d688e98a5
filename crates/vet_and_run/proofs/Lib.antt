-- The laws of vetting followed by a run.
pub mod Answered
pub mod Instance
pub mod Refuted
