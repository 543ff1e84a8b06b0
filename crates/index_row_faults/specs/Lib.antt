pub mod Counts
pub mod Entries
pub mod Keys
pub mod There
pub mod Totals
pub mod Undue
pub mod Wrong
pub use Rattle.page_faults.specs.cell_chains
pub use Rattle.page_faults.specs.cell_faults
pub use Rattle.page_faults.specs.cell_records
pub use Rattle.directory_faults.specs as directory_faults
pub use Rattle.page_faults.specs.directory_rows
pub use Rattle.page_faults.specs.disk_label
pub use Rattle.page_faults.specs.domain_base
pub use Rattle.page_faults.specs.domain_layout
pub use Rattle.page_faults.specs.extent_maps
pub use Rattle.page_faults.specs.extent_records
pub use Rattle.page_faults.specs.file_chains
pub use Rattle.page_faults.specs.file_release
pub use Rattle.page_faults.specs.fileset_files
pub use Rattle.page_faults.specs.fileset_model
pub use Rattle.directory_faults.specs.fileset_shapes
pub use Rattle.page_faults.specs.fileset_table
pub use Rattle.page_faults.specs.fileset_values
pub use Rattle.filesets_filled.specs as filesets_filled
pub use Rattle.page_faults.specs.filesets_reading
pub use Rattle.page_faults.specs.log_recovery
pub use Rattle.page_faults.specs.log_ring
pub use Rattle.page_faults.specs.metadata_cells
pub use Rattle.page_faults.specs as page_faults
pub use Rattle.page_faults.specs.page_store
pub use Rattle.page_faults.specs.page_ways
pub use Rattle.page_faults.specs.sorted_sets
pub use Rattle.page_faults.specs.tag_dirs
pub use Rattle.page_faults.specs.tag_faults
pub use Rattle.page_faults.specs.volume_disk
pub use Rattle.page_faults.specs.word_forms
