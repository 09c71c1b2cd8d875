-- Lemmas that other crates may cite.
pub mod CopySums
pub mod Joined
pub mod CopiedLayers
pub mod CopyExponent
pub mod Extensions
pub mod ProductForm
