pub mod Fault
pub mod Groups
pub mod Laws
pub mod Members
pub mod Outcome
pub mod Range
pub mod Readable
pub mod Settled
pub mod Settling
pub use Rattle.log_ring.specs.disk_label
pub use Rattle.log_ring.specs.domain_base
pub use Rattle.log_ring.specs as log_ring
pub use Rattle.log_ring.specs.page_store
pub use Rattle.log_ring.specs.volume_disk
