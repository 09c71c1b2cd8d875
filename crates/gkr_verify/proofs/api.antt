-- Lemmas that other crates may cite.
pub mod Filled
pub mod GivenDraws
