pub mod Rest
pub mod Shown
pub mod Chosen
pub use Rattle.domain_memory.specs.cell_records
pub use Rattle.domain_memory.specs.directory_pages
pub use Rattle.domain_memory.specs.directory_rows
pub use Rattle.domain_memory.specs.domain_base
pub use Rattle.domain_memory.specs.domain_layout
pub use Rattle.domain_memory.specs as domain_memory
pub use Rattle.domain_memory.specs.domain_standing
pub use Rattle.domain_memory.specs.fileset_files
pub use Rattle.domain_memory.specs.fileset_model
pub use Rattle.domain_memory.specs.fileset_table
pub use Rattle.domain_memory.specs.fileset_values
pub use Rattle.domain_memory.specs.free_cells
pub use Rattle.domain_memory.specs.free_space
pub use Rattle.domain_memory.specs.legal_histories
pub use Rattle.domain_memory.specs.metadata_cells
pub use Rattle.domain_memory.specs.name_space
pub use Rattle.domain_memory.specs.page_store
pub use Rattle.domain_memory.specs.plain_program
pub use Rattle.domain_memory.specs.quota_book
pub use Rattle.domain_memory.specs.release_list
pub use Rattle.set_standing.specs as set_standing
pub use Rattle.domain_memory.specs.staged_pages
pub use Rattle.domain_memory.specs.standing_laws
pub use Rattle.domain_memory.specs.stored_set
pub use Rattle.domain_memory.specs.tag_dirs
