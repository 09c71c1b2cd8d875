-- Lemmas that other crates may cite.
pub mod GateSteps
pub mod Hom
pub mod Identity
pub mod Sums
