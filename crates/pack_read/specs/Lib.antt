-- The words of the readers' contracts.
pub mod Slices
pub mod Left
