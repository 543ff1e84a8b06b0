pub mod Exits
pub mod Images
