-- The laws of the run of a pack that has passed.
pub mod Clearing
pub mod Ending
