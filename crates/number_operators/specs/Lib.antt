-- What the operators answer on numbers.
pub mod Numbers
pub mod Laws
