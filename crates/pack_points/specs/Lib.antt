-- What is known of a pack that is shown.
pub mod Passed
