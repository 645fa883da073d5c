pub mod LeastBits
pub mod GroupCounts
pub mod SpanValues
