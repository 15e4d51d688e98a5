-- The bounds of a range.
pub mod Bounds
