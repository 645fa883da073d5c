pub mod SubblockOrder
pub mod MotherCode
pub mod RateMatching
pub mod Pieces
pub mod Received
pub mod Repeats
