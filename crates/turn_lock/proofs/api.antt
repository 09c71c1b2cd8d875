-- Lemmas that other crates may cite.
pub mod Rising
pub mod United
