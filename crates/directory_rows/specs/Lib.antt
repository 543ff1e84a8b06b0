pub mod Directory
pub mod Laws
pub mod Places
pub mod RowChanges
pub mod Steps
pub mod Ways
pub mod Stored
pub use Rattle.directory_pages.specs as directory_pages
pub use Rattle.directory_pages.specs.domain_base
pub use Rattle.directory_pages.specs.page_store
