-- What a run of a pack that has passed asks of its work slices.
pub mod Work
