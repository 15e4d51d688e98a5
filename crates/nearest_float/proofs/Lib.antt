pub mod ToEven
pub mod Significand
