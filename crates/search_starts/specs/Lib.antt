pub mod Calendar
pub mod Starts
