pub mod Checkpoint
pub mod Force
pub mod Inside
pub mod Log
pub mod Numbers
pub use Rattle.log_ring.specs.disk_label
pub use Rattle.log_ring.specs.domain_base
pub use Rattle.log_ring.specs as log_ring
pub use Rattle.log_ring.specs.page_store
pub use Rattle.log_ring.specs.volume_disk
