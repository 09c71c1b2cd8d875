-- Lemmas that other crates may cite.
pub mod Apart
pub mod Cuts
pub mod Lengths
pub mod OneTrouble
pub mod Pieces
pub mod Reading
pub mod Troubles
