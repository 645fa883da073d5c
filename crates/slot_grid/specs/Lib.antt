pub mod Block
pub mod Grid
pub mod Image
pub mod View
pub mod WordWriting
