pub mod Program
pub mod Shapes
