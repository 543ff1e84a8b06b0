pub mod Pending
pub mod Sides
pub use Rattle.meta_log.specs.disk_label
pub use Rattle.meta_log.specs.domain_base
pub use Rattle.meta_log.specs.log_ring
pub use Rattle.meta_log.specs as meta_log
pub use Rattle.meta_log.specs.page_store
pub use Rattle.meta_log.specs.volume_disk
