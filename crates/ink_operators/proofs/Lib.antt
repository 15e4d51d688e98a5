-- The laws of the boundary; Foretold has demand 3 in its words, InUse the numbers that are returned.
mod Ending
mod Duties
mod Small
pub mod Foretold
pub mod InUse
