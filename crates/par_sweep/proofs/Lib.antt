pub mod Sums
pub mod Placing
pub mod Ranges
pub mod LegalLoad
pub mod Plans
pub mod SlotDesks
pub mod Searches
pub mod Entries
