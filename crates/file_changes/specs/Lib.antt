pub mod Stages
pub mod Looking
pub mod Reading
pub mod Writing
pub mod Counting
pub mod Extents
