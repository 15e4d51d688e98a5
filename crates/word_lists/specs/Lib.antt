-- An operator on words whose result is a List.
pub mod Operands
pub mod Slices
