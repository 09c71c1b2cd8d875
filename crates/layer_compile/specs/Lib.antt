pub mod Levels
pub mod Rows
pub mod Circuits
pub mod Needed
pub mod Next
