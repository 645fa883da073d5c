pub mod Parity
pub mod Register
