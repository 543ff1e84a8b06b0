pub mod Homes
pub mod Links
pub mod Changes
pub use Rattle.file_release.specs.cell_records
pub use Rattle.file_release.specs.domain_base
pub use Rattle.file_release.specs.extent_maps
pub use Rattle.file_release.specs.extent_records
pub use Rattle.file_release.specs.file_chains
pub use Rattle.file_release.specs as file_release
pub use Rattle.file_release.specs.fileset_files
pub use Rattle.file_release.specs.free_cells
pub use Rattle.file_release.specs.free_space
pub use Rattle.file_release.specs.metadata_cells
pub use Rattle.file_release.specs.page_store
pub use Rattle.file_release.specs.tag_dirs
