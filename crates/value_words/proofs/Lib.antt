-- The laws of values as words, and of calls on them.
pub mod Round
pub mod Saying
pub mod Few
