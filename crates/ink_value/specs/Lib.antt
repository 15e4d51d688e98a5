-- What values are, and what they read as.
pub mod Val
pub mod Convert
pub mod Value
pub mod Held
