-- What a call on values in words leaves at the boundary.
pub mod Calls
pub mod Slices
