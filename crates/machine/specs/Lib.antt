-- A run and vetting as one machine, a call on a pack's bytes, and demand 3.
pub mod Machine
pub mod Stack
pub mod Whole
pub mod Foretold
pub mod Ended
