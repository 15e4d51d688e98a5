-- What the operators answer on Lists.
pub mod Lists
