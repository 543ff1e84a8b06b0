mod Alike
mod HomeTests
mod OneMove
mod StayApart
mod Stepping
mod PartChanged
mod Writing
mod StillGood
pub mod Even
pub mod Exists
pub mod Falls
pub mod Found
pub mod Moved
pub mod Nearer
pub mod Shares
pub mod Spread
