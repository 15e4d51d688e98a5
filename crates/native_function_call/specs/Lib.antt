-- What the operators answer on values.
pub mod Apply
pub mod Known
pub mod Rounding
