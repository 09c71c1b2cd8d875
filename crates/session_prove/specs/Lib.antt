pub mod Challenges
pub mod Exchange
pub mod Sessions
