pub mod api
mod Counts
mod Reading
mod Cuts
mod Troubles
mod OneTrouble
