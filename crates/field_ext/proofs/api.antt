-- Lemmas that other crates may cite.
pub mod ElementBytes
pub mod Elements
pub mod Embedding
pub mod FLaws
pub mod KLaws
pub mod Prime
pub mod Rings
pub mod Solve
pub mod Sums
pub mod Words
