pub mod RowPage
pub mod Rows
pub mod Views
pub mod Changes
pub mod Entries
pub mod Index
pub use Rattle.cell_records.specs.domain_base
pub use Rattle.page_store.specs as page_store
