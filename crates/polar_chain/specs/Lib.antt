pub mod Carriers
pub mod CodeOfBlock
pub mod CodeShape
pub mod Decoding
pub mod KnownPlaces
pub mod Reading
pub mod TestedPlaces
