pub mod Binary32
pub mod Nearest
pub mod Operations
pub mod Real
