-- Lemmas that other crates may cite.
pub mod Halves
pub mod RoundPairs
pub mod LoopSteps
pub mod PairSums
