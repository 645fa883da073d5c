pub mod Codes
pub mod Lines
pub mod Outcome
pub mod Steps
pub mod Ran
pub mod Promises
