-- Lemmas that other crates may cite.
pub mod LayerSteps
pub mod TableShapes
