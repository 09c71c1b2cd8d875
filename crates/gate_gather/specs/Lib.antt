pub mod LazySum
pub mod Gathering
pub mod Choosing
pub mod Scaling
pub mod Carries
