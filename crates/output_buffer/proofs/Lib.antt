-- The laws of text that waits to be written.
pub mod Adding
