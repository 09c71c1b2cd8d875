pub mod api
mod Words
