-- The laws of vetting.
pub mod Codes
pub mod Written
pub mod Asking
