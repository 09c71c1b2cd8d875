pub mod Kernel
pub mod Four
pub mod Sums
pub mod Lanes
