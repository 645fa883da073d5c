pub mod Appending
pub mod Hexadecimal
pub mod Pieces
