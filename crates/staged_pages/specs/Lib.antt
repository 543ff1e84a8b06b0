pub mod Slots
pub mod Staged
pub mod Store
