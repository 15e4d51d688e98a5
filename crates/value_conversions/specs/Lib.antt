-- What the conversions answer.
pub mod Convert
