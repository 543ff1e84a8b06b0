pub mod Bodies
pub mod Elsewhere
pub mod Gates
pub mod OtherSlots
pub mod Slots
pub mod Steps
pub mod Written
pub mod OfVolumeDisk
