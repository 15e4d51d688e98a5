-- The laws of sums over definitions and of pieces of a pack.
pub mod Chunks
pub mod Counts
