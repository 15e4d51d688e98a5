-- The table of answers on kinds.
pub mod Table
