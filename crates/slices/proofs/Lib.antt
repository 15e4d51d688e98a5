-- The laws of lent slices, tests and tables.
pub mod Every
pub mod Filled
pub mod Lists
pub mod Ranged
pub mod Strides
pub mod Tables
pub mod Made
