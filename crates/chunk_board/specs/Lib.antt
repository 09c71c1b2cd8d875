pub mod ClaimMachine
pub mod Hands
pub mod Board
pub mod PartHands
pub mod PartViews
