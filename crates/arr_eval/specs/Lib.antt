pub mod Evaluated
pub mod Meaning
pub mod Numbers
pub mod Sizes
