-- The laws of operators on words.
pub mod Called
