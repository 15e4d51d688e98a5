-- What an instruction does to a stack of kinds.
pub mod Step
pub mod Slices
