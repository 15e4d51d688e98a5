-- The text of values and refusals.
pub mod Text
