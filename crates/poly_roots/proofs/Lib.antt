pub mod api
mod Coefficients
mod AtField
mod Powers
