pub mod api
mod LazySums
mod Folds
mod Columns
