pub mod api
mod HasSteps
mod HonestSteps
mod Begun
