-- Lemmas that other crates may cite.
pub mod NoFault
pub mod Refusals
