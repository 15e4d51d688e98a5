-- How a sheet's instructions end on kinds.
pub mod Ending
pub mod Slices
