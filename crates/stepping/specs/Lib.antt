-- What one instruction does.
pub mod Steps
pub mod Slices
