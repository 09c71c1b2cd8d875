mod Halving
mod Padding
mod RunSums
mod Entries
mod Weights
mod LongestRuns
mod SoundRuns
mod LayersOfRuns
