pub mod Entries
pub mod Homes
pub mod Rising
pub mod Members
pub mod Order
pub mod SpanMembers
pub mod Spans
pub mod Counts
pub use Rattle.domain_base.specs as domain_base
