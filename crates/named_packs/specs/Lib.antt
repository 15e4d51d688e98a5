-- A stream of named packs.
pub mod Stream
