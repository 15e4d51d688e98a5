-- The kinds of operands in words.
pub mod Operands
