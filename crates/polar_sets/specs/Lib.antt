pub mod CodeSets
pub mod Enough
pub mod FrozenPlaces
pub mod InformationPositions
pub mod InputOrder
