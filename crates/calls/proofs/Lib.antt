-- The laws of direct calls.
pub mod Forms
pub mod Passed
pub mod Standing
pub mod Formed
pub mod Again
pub mod Answered
pub mod Equality
pub mod Rounding
