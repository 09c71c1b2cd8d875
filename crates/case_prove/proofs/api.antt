-- Lemmas that other crates may cite.
pub mod AcceptedProofs
pub mod ProvedCases
pub mod ProvedOutputs
pub mod ReadProofs
