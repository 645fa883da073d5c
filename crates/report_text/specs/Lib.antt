pub mod Head
pub mod Report
pub mod Explain
pub mod Refusal
