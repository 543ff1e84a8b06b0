pub mod Page
pub mod Reading
pub mod Slot
pub mod Table
pub mod Writing
pub use Rattle.metadata_cells.specs.cell_records
pub use Rattle.metadata_cells.specs.domain_base
pub use Rattle.fileset_model.specs as fileset_model
pub use Rattle.word_forms.specs.fileset_values
pub use Rattle.metadata_cells.specs.page_store
pub use Rattle.word_forms.specs as word_forms
