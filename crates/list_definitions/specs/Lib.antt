-- What the list operators that go by the pack's definitions answer.
pub mod Defs
pub mod Search
pub mod ByEntry
