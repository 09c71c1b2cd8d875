pub mod api
mod Phases
mod AtField
