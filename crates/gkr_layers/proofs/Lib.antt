pub mod api
mod Soundness
mod Output
mod Widths
mod SoundLayers
mod Earlier
mod Few
mod Complete
mod Unique
mod Passing
