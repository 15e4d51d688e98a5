-- The laws of the work on a sheet's instructions, and of what a run ends in.
pub mod Working
pub mod Formed
