-- Lemmas that other crates may cite.
pub mod NumberLaws
pub mod Sized
