pub mod api
mod Powers
mod AtField
