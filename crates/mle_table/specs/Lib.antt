pub mod Shape
pub mod Equality
pub mod SplitEquality
