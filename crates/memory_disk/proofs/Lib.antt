pub mod BlockMarks
pub mod Fused
pub mod Moments
pub mod OneMore
pub mod OverlaidBytes
pub mod Replays
pub mod Stopped
pub mod VolumeFields
mod Made
mod Untold
