pub mod Each
mod Remainders
pub mod NoFault
pub mod ByKey
pub mod ByPlace
pub mod GroupTests
pub mod LegalFields
pub mod LegalCoresets
pub mod LegalSets
pub mod LegalCell
