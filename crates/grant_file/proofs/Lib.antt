pub mod Lists
pub mod NoJson
mod OtherFaults
pub mod SlotLists
