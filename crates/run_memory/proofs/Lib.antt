-- The laws of questions 6 and 7 of a run.
pub mod Forming
pub mod Opening
