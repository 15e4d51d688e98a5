pub mod Magnitude
pub mod Nans
pub mod Truncation
