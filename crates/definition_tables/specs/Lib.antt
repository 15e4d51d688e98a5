-- The definitions of a pack that has passed, as two tables.
pub mod Tables
pub mod Slices
