-- Lemmas that other crates may cite.
pub mod Choice
pub mod Compose
pub mod Decimals
pub mod Each
pub mod Except
pub mod Leaves
pub mod Listed
pub mod Loops
pub mod Optional
pub mod Rows
pub mod Whole
