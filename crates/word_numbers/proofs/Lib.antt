-- The laws of operators on numbers that stand in words.
pub mod NumbersInWords
pub mod Said
