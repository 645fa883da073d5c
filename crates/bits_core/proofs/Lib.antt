pub mod CodeLengths
pub mod Numbers
pub mod Ones
pub mod RowWords
pub mod Rows
pub mod Sums
mod PackedBits
