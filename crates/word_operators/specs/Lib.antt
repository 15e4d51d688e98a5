-- Operators on words.
pub mod Operands
pub mod Slices
