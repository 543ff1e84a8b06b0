pub mod InPlace
pub mod Lent
pub use Rattle.logged_rack.specs.disk_label
pub use Rattle.logged_rack.specs.domain_base
pub use Rattle.logged_rack.specs.log_ring
pub use Rattle.logged_rack.specs as logged_rack
pub use Rattle.logged_rack.specs.meta_log
pub use Rattle.page_cache.specs as page_cache
pub use Rattle.logged_rack.specs.page_store
pub use Rattle.logged_rack.specs.volume_disk
