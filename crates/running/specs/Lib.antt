-- What a run asks, answers and leaves; and the words of the contracts inside.
pub mod Run
pub mod Work
pub mod Slices
