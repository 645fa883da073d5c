mod Examples
pub mod Parts
mod Flags
pub mod Steps
pub mod ReadTables
pub mod Spellings
pub mod WhatIsSpelled
pub mod FirstFaults
pub mod Places
