pub mod Widths
pub mod Groups
pub mod Indication
pub mod Spans
