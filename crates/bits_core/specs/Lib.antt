pub mod Bits
pub mod CodeLengths
pub mod Ones
pub mod Row
pub mod RowWriting
