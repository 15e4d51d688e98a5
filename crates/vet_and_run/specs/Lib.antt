-- What the two calls on one sheet say of each other.
pub mod Both
