-- Operators on numbers that stand in words.
pub mod Slices
