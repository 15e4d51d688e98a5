pub mod Agree
pub mod Results
pub mod Known
pub mod Calling
pub mod Emptied
pub mod Equality
pub mod Rounding
pub mod InParts
