pub mod api
mod Machine
mod Interleavings
mod Steps
mod PartEnds
