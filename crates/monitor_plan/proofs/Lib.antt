pub mod SetFits
pub mod WatchParts
pub mod MonitoredSets
pub mod Plans
pub mod SoundWatches
pub mod SharedRegs
pub mod PlannedWatches
pub mod OrderLists
