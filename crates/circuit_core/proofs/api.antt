-- Lemmas that other crates may cite.
pub mod Faultless
pub mod First
pub mod LayerValues
pub mod Sizes
