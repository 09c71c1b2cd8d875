-- Lemmas that other crates may cite.
pub mod EqualitySteps
pub mod Fold
pub mod Points
pub mod Steps
pub mod SumLaws
pub mod Written
