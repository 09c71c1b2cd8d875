pub mod api
mod Counts
