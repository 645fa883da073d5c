pub mod FirstBytes
pub mod HandleValues
pub mod NumberedEntries
pub mod Overlays
pub mod PlacesInOrder
pub mod Spellings
pub mod Values
