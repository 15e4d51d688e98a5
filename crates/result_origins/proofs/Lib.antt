-- The laws that crates above cite.
pub mod Rule
