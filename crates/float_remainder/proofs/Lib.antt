pub mod Scaling
pub mod Units
pub mod Product
pub mod Remains
