pub mod api
mod UsedAbove
mod LevelsOf
mod Places
mod Lists
mod Standing
mod RowValues
mod UsesOf
mod InRows
mod Next
mod Merging
mod PlacesOf
mod WiderLimits
