pub mod Anchor
pub mod Body
pub mod Fault
pub mod FirstPages
pub mod Label
pub mod Laws
pub mod Slot
pub mod Words
pub use Rattle.volume_disk.specs.domain_base
pub use Rattle.volume_disk.specs as volume_disk
