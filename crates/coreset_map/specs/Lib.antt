pub mod Candidates
pub mod ControlResources
pub mod DataPlaces
pub mod Laws
pub mod Numbers
pub mod RegOrder
pub mod ResourcesOfCell
pub mod View
