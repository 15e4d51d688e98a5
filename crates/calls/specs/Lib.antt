-- What direct calls and conversions on a pack answer.
pub mod Call
pub mod Slices
