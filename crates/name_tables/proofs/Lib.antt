pub mod Kept
pub mod Losses
pub mod Directories
mod Alone
