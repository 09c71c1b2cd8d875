pub mod api
mod AtField
mod BatchTables
mod FilledWeights
mod WholePoints
mod Inputs
mod WeightedSums
mod ListedTables
mod ListedValues
mod OneInstance
mod Worked
