-- The laws of operands in words.
pub mod Operands
