-- The laws that the functions' proofs, and those of crates above, cite.
pub mod Reading
pub mod Parts
pub mod Given
pub mod ReadBack
pub mod Forming
