pub mod NamesOfWords
pub mod AssignmentWidths
pub mod BlockCounts
pub mod RowLists
pub mod PayloadsOfRows
pub mod PayloadCarriers
mod RowReading
pub mod GivenLists
mod RowPacking
pub mod PackingOutcomes
pub mod FirstFieldFaults
pub mod FormatsApart
pub mod SpanWidths
pub mod FormatWidths
pub mod FormatLists
