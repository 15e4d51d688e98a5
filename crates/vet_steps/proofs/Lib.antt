-- The laws of a step on kinds.
pub mod KindSteps
