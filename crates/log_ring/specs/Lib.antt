pub mod Header
pub mod Images
pub mod Laws
pub mod Groups
pub mod Homes
pub mod LogLaws
pub mod Ring
pub mod Settling
pub use Rattle.disk_label.specs as disk_label
pub use Rattle.disk_label.specs.domain_base
pub use Rattle.page_store.specs as page_store
pub use Rattle.disk_label.specs.volume_disk
