pub mod Gold
pub mod Sequence
pub mod SingleBits
pub mod Standing
pub mod Stretches
