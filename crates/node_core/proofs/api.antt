-- Lemmas that other crates may cite.
pub mod InOrder
pub mod NodeValues
