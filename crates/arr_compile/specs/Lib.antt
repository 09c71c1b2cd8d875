pub mod Kinds
pub mod Programs
pub mod Circuits
pub mod Languages
