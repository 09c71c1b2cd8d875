-- Lemmas that other crates may cite.
pub mod Calls
pub mod Counts
pub mod Kept
