pub mod api
mod Inverse
