-- How values are written as words at the boundary.
pub mod Words
