-- A law of the instructions of a sheet.
pub mod Few
