pub mod Report
pub mod Searcher
pub mod Searched
