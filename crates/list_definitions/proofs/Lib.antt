-- The laws that the functions' proofs, and those of crates above, cite.
pub mod DefLaws
pub mod Passed
pub mod OriginLaws
pub mod Order
pub mod Raised
pub mod IncrementSearch
pub mod TargetLaws
pub mod AnswersFormed
mod Known
pub mod ByEntry
