pub mod Ring
pub mod Field
pub mod Bytes
pub mod Polynomial
pub mod Sums
pub mod Multilinear
