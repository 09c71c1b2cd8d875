pub mod ConstantPlaces
pub mod Lowering
pub mod Operations
