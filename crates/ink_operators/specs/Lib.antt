-- What each exported function of a run, of vetting and of a pack that has passed leaves at the boundary.
pub mod Apply
pub mod Slices
pub mod Foretold
