-- The laws of the tables of definitions.
pub mod TablesRead
