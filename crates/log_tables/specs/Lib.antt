pub mod Calls
pub mod Moves
pub mod Opened
pub mod Untold
