-- What the operators answer on kinds.
pub mod Kinds
