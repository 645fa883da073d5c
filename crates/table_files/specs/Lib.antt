pub mod Permutation
pub mod TableText
pub mod SpelledTables
pub mod FirstTableFault
pub mod NumbersInArray
pub mod SeenNumbers
