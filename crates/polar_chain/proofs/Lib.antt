mod BitCarriers
mod CodeBlocks
mod CodeSteps
mod CodeWords
pub mod Codes
pub mod CodesByTables
mod InputCounts
mod InputSteps
mod KnownWords
mod SentPlaces
