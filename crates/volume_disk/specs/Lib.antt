pub mod Disk
pub mod Gate
pub mod Image
pub mod Run
pub use Rattle.domain_base.specs as domain_base
