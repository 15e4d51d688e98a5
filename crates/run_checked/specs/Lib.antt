-- What is cleared after a run.
pub mod Clear
