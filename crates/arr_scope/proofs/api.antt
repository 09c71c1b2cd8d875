-- Lemmas that other crates may cite.
pub mod Answered
pub mod Counted
pub mod Shapes
pub mod Within
