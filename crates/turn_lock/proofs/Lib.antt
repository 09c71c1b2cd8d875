pub mod api
mod Moves
