-- Lemmas that other crates may cite.
pub mod Apart
pub mod Either
pub mod Lengths
pub mod Shortened
