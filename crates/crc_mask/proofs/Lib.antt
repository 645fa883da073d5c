mod Bytes
mod Copies
mod Entries
pub mod Masks
mod Numbers
mod Pins
mod Registers
mod Remainders
