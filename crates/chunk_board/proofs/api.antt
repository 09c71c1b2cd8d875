-- Lemmas that other crates may cite.
pub mod Emptying
pub mod PartSteps
