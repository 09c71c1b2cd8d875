pub mod api
mod OneReading
mod OneCircuit
mod Computing
mod SoundCircuits
mod PlacesForgotten
mod WhiteSpace
mod TwoLanguages
