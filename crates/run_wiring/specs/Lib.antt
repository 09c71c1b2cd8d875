pub mod Runs
pub mod Entries
pub mod Greedy
pub mod LayerRuns
pub mod CircuitRuns
pub mod Weights
