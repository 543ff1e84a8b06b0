pub mod Changes
pub mod Creation
pub mod Files
pub mod Moves
pub mod Pages
pub mod Shown
pub mod Together
pub mod Truncation
pub mod Index
pub mod State
pub mod States
pub mod Stripes
pub use Rattle.file_chains.specs.cell_records
pub use Rattle.file_chains.specs.domain_base
pub use Rattle.file_chains.specs.extent_maps
pub use Rattle.file_chains.specs.extent_records
pub use Rattle.file_chains.specs as file_chains
pub use Rattle.file_chains.specs.free_cells
pub use Rattle.file_chains.specs.free_space
pub use Rattle.file_chains.specs.metadata_cells
pub use Rattle.file_chains.specs.page_store
pub use Rattle.file_chains.specs.sorted_sets
pub use Rattle.tag_dirs.specs as tag_dirs
