pub mod api
mod Adds
mod Grown
mod LeavesMade
mod MadeEach
mod MadeInTurn
mod Means
mod Pairwise
mod PlacesKept
mod SumHalves
mod SumsMade
