-- Lemmas that other crates may cite.
pub mod Counted
pub mod InputNodes
pub mod Related
pub mod StatementRows
pub mod Wider
