pub mod Belong
pub mod Cells
pub mod VolumeTable
pub mod Marks
pub mod Marking
pub use Rattle.metadata_cells.specs.cell_records
pub use Rattle.metadata_cells.specs.domain_base
pub use Rattle.free_space.specs as free_space
pub use Rattle.metadata_cells.specs as metadata_cells
pub use Rattle.metadata_cells.specs.page_store
pub use Rattle.metadata_cells.specs.sorted_sets
