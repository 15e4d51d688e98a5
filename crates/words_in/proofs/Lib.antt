-- The laws of words that are no value's, and of arrays made by a closure.
pub mod Refused
