-- Lemmas that other crates may cite.
pub mod ElementSteps
pub mod HonestList
pub mod LayoutSteps
pub mod ProverSteps
pub mod VerifierSteps
