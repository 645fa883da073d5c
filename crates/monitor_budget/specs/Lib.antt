pub mod SetCandidates
pub mod Scrambling
pub mod Counts
pub mod Spaces
pub mod Limits
pub mod Allotting
pub mod Equality
pub mod Tally
