-- Lemmas that other crates may cite.
pub mod Once
pub mod Totals
