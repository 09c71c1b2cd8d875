-- Lemmas that other crates may cite.
pub mod Changed
pub mod Transposes
