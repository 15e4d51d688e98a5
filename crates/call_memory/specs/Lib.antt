-- Question 7 of a direct call.
pub mod Lent
