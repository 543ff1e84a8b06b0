pub mod Counts
pub mod Gate
pub mod Limits
pub mod Page
pub mod Version
