-- What is said of text that waits to be written.
pub mod Text
