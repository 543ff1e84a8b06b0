pub mod Coming
pub mod Ending
pub mod Naming
pub mod Leaving
pub mod Placing
pub mod Rooted
pub use Rattle.domain_changes.specs.directory_pages
pub use Rattle.domain_changes.specs.domain_base
pub use Rattle.domain_changes.specs as domain_changes
pub use Rattle.domain_changes.specs.domain_layout
pub use Rattle.domain_changes.specs.domain_making
pub use Rattle.domain_changes.specs.domain_memory
pub use Rattle.domain_changes.specs.domain_standing
pub use Rattle.domain_state.specs as domain_state
pub use Rattle.file_changes.specs as file_changes
pub use Rattle.domain_changes.specs.fileset_files
pub use Rattle.domain_changes.specs.fileset_model
pub use Rattle.domain_changes.specs.fileset_table
pub use Rattle.domain_changes.specs.fileset_values
pub use Rattle.domain_changes.specs.free_cells
pub use Rattle.domain_changes.specs.free_space
pub use Rattle.domain_changes.specs.legal_histories
pub use Rattle.domain_changes.specs.log_recovery
pub use Rattle.domain_changes.specs.log_ring
pub use Rattle.name_changes.specs as name_changes
pub use Rattle.domain_changes.specs.name_space
pub use Rattle.domain_changes.specs.page_store
pub use Rattle.domain_changes.specs.page_ways
pub use Rattle.domain_changes.specs.quota_book
pub use Rattle.domain_changes.specs.release_list
pub use Rattle.domain_changes.specs.staged_pages
pub use Rattle.domain_changes.specs.standing_laws
pub use Rattle.domain_changes.specs.stored_set
pub use Rattle.domain_changes.specs.tag_dirs
pub use Rattle.domain_changes.specs.volume_disk
pub use Rattle.domain_changes.specs.word_forms
