-- The laws of a sheet's instructions.
pub mod Alone
