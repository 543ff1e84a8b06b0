pub mod Same
pub mod Settling
pub mod Attaching
pub mod Tables
pub mod Closing
pub use Rattle.attached_domain.specs as attached_domain
pub use Rattle.attached_domain.specs.cell_chains
pub use Rattle.attached_domain.specs.cell_faults
pub use Rattle.attached_domain.specs.directory_pages
pub use Rattle.attached_domain.specs.disk_label
pub use Rattle.attached_domain.specs.domain_base
pub use Rattle.domain_bringing.specs as domain_bringing
pub use Rattle.domain_bringing.specs.domain_faults
pub use Rattle.attached_domain.specs.domain_layout
pub use Rattle.attached_domain.specs.domain_making
pub use Rattle.attached_domain.specs.domain_memory
pub use Rattle.attached_domain.specs.domain_standing
pub use Rattle.domain_state.specs as domain_state
pub use Rattle.attached_domain.specs.fileset_model
pub use Rattle.attached_domain.specs.fileset_shapes
pub use Rattle.attached_domain.specs.fileset_values
pub use Rattle.attached_domain.specs.filesets_filled
pub use Rattle.attached_domain.specs.filesets_reading
pub use Rattle.domain_bringing.specs.image_loading
pub use Rattle.attached_domain.specs.legal_histories
pub use Rattle.attached_domain.specs.log_recovery
pub use Rattle.attached_domain.specs.log_ring
pub use Rattle.attached_domain.specs.no_faults
pub use Rattle.attached_domain.specs.page_store
pub use Rattle.attached_domain.specs.page_ways
pub use Rattle.attached_domain.specs.plain_program
pub use Rattle.attached_domain.specs.staged_pages
pub use Rattle.attached_domain.specs.volume_disk
pub use Rattle.attached_domain.specs.word_forms
