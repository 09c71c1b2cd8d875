-- Lemmas that other crates may cite.
pub mod Accepted
pub mod Answers
pub mod Circuits
pub mod Coefficients
pub mod Degree
pub mod Forms
pub mod Honest
pub mod Lines
pub mod Lists
pub mod Outputs
pub mod PlaceSums
pub mod RoundPoly
pub mod Shapes
pub mod Sound
