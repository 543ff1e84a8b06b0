pub mod Allocated
pub mod Changes
pub mod FileChanges
pub mod Files
pub mod MapChanges
pub mod Moving
pub use Rattle.free_cells.specs.cell_records
pub use Rattle.free_cells.specs.domain_base
pub use Rattle.extent_records.specs.extent_maps
pub use Rattle.extent_records.specs as extent_records
pub use Rattle.free_cells.specs as free_cells
pub use Rattle.free_cells.specs.free_space
pub use Rattle.free_cells.specs.metadata_cells
pub use Rattle.free_cells.specs.page_store
pub use Rattle.free_cells.specs.sorted_sets
