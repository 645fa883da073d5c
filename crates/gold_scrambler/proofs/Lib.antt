pub mod Parities
pub mod Registers
pub mod States
pub mod Recurrences
pub mod Stretches
pub mod Windows
pub mod Linear
pub mod SingleBits
pub mod Fills
mod Pins
