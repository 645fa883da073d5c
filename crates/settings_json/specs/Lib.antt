pub mod First
pub mod NoJson
pub mod Shapes
pub mod Values
