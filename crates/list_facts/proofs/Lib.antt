pub mod Tests
pub mod Members
pub mod Rising
pub mod Ranges
pub mod Counting
pub mod Lists
