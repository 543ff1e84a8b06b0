pub mod Showing
pub mod Parts
pub mod Filling
pub mod Slots
