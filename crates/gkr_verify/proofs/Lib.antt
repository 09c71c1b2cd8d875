pub mod api
mod Choices
mod RoundSteps
mod LayerSteps
mod InputSteps
mod TableSteps
mod BothSteps
mod FillSteps
mod SumSteps
mod DownSteps
