pub mod Reading
pub mod Releases
pub mod Sharing
pub mod Steps
pub use Rattle.fileset_files.specs.cell_records
pub use Rattle.fileset_files.specs.domain_base
pub use Rattle.fileset_files.specs.extent_maps
pub use Rattle.fileset_files.specs.extent_records
pub use Rattle.fileset_files.specs.file_chains
pub use Rattle.fileset_files.specs as fileset_files
pub use Rattle.fileset_files.specs.free_cells
pub use Rattle.fileset_files.specs.free_space
pub use Rattle.fileset_files.specs.metadata_cells
pub use Rattle.fileset_files.specs.page_store
pub use Rattle.fileset_files.specs.sorted_sets
pub use Rattle.fileset_files.specs.tag_dirs
