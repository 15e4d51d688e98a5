-- What an operator of a run does.
pub mod Stacked
pub mod Slices
