-- Lemmas that other crates may cite.
pub mod Lasting
pub mod Places
pub mod Runs
