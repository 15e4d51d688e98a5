-- The laws of question 18 that the functions' proofs cite.
mod Casting
