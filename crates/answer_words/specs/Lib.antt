-- The answers of a run and of vetting in words.
pub mod Answers
