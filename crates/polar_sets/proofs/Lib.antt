pub mod Closed
pub mod Entries
pub mod Frozen
pub mod Information
pub mod Members
pub mod Taken
pub mod CodableBlocks
