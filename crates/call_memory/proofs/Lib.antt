-- The laws of question 7 of a direct call.
pub mod Rooms
pub mod UsedOperands
