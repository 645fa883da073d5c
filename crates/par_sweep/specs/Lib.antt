pub mod LoadCell
pub mod LoadGrants
pub mod Jobs
pub mod Prepared
pub mod Slots
pub mod Sweep
pub mod Summary
