pub mod MatrixWord
pub mod PackedStages
pub mod Stages
pub mod Upward
pub mod WordLaws
