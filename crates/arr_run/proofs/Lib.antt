pub mod api
mod ExpressionRows
mod Elements
mod Newest
mod WorkRows
mod Waiting
mod Parameters
