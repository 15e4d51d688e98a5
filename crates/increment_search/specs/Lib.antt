-- The words of the contracts of increment's search.
pub mod Chosen
