pub mod Seen
pub mod Shape
pub mod Filled
pub mod Layout
pub mod Owners
pub mod Reached
pub mod CellRules
pub mod TagRules
pub mod PageRules
pub mod DirectoryRules
pub mod Faults
pub mod Read
pub mod NewDomain
pub mod Agreeing
pub mod Alike
pub mod Metadata
pub mod Looks
pub use Rattle.file_release.specs.cell_records
pub use Rattle.name_space.specs.directory_pages
pub use Rattle.name_space.specs.directory_rows
pub use Rattle.log_recovery.specs.disk_label
pub use Rattle.file_release.specs.domain_base
pub use Rattle.file_release.specs.extent_maps
pub use Rattle.file_release.specs.extent_records
pub use Rattle.file_release.specs.file_chains
pub use Rattle.file_release.specs as file_release
pub use Rattle.file_release.specs.fileset_files
pub use Rattle.name_space.specs.fileset_model
pub use Rattle.fileset_table.specs as fileset_table
pub use Rattle.name_space.specs.fileset_values
pub use Rattle.file_release.specs.free_cells
pub use Rattle.file_release.specs.free_space
pub use Rattle.name_space.specs.legal_histories
pub use Rattle.log_recovery.specs as log_recovery
pub use Rattle.log_recovery.specs.log_ring
pub use Rattle.file_release.specs.metadata_cells
pub use Rattle.name_space.specs as name_space
pub use Rattle.file_release.specs.page_store
pub use Rattle.name_space.specs.plain_program
pub use Rattle.quota_book.specs as quota_book
pub use Rattle.file_release.specs.sorted_sets
pub use Rattle.file_release.specs.tag_dirs
pub use Rattle.log_recovery.specs.volume_disk
pub use Rattle.fileset_table.specs.word_forms
