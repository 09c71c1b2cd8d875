-- Lemmas that other crates may cite.
pub mod HexWriting
pub mod Lines
pub mod Readings
