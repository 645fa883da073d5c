pub mod NoFault
pub mod NoJson
mod OtherConflicts
mod OtherFaults
mod OtherRanges
mod OtherShapes
