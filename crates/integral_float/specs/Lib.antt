-- A whole number near a Float.
pub mod Near
