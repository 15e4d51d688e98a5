-- Demand 3, and the laws that vetting and running cite; Emptied has the run of request 02.3, Equality that of 02.5, and Rounding that of 02.1.
pub mod Demand
pub mod Whole
pub mod Numbers
pub mod Stack
pub mod Wellformed
pub mod Slots
pub mod Emptied
pub mod Equality
pub mod Rounding
