pub mod Watch
pub mod Watches
pub mod SetFormats
pub mod Planned
pub mod Monitored
pub mod Outlined
pub mod Equality
