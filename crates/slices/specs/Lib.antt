-- What is said of lent slices, tests and tables.
pub mod Every
pub mod Filled
pub mod Slices
