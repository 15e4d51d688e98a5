-- How words are read as values at the boundary.
pub mod Words
