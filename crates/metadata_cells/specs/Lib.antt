pub mod Cell
pub mod CellPage
pub mod Chain
pub mod Reading
pub use Rattle.cell_records.specs as cell_records
pub use Rattle.page_store.specs.domain_base
pub use Rattle.page_store.specs as page_store
pub use Rattle.page_store.specs.sorted_sets
