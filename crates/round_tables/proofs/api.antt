-- Lemmas that other crates may cite.
pub mod PartDegree
pub mod Pieces
