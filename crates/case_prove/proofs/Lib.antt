pub mod api
mod AcceptedOutputs
mod LayerSizes
mod ProvedSizes
mod ProvedText
mod Statements
mod AuditedCases
mod OneSaying
mod ConvertedCases
mod ConvertedTexts
