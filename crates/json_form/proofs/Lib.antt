pub mod Elements
pub mod NoFault
pub mod OtherKinds
pub mod OtherReasons
pub mod Readings
