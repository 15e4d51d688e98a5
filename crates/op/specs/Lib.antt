-- The operators' numbers.
pub mod Op
