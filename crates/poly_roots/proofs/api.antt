-- Lemmas that other crates may cite.
pub mod Roots
pub mod Values
