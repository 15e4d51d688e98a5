-- What the operators answer on the entries of two Lists.
pub mod Pairs
