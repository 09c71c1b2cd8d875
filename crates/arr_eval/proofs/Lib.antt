pub mod api
mod InPlace
mod Lists
mod Places
mod Runs
