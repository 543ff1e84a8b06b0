pub mod Cache
pub mod Entries
pub mod Frames
pub mod Lending
pub mod Queues
pub use Rattle.page_store.specs.domain_base
pub use Rattle.page_store.specs as page_store
