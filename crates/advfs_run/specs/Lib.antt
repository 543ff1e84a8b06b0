pub mod Quiet
pub mod Runs
pub mod Statuses
pub mod Run
pub use Rattle.domain_attaching.specs.domain_base
pub use Rattle.domain_attaching.specs.fileset_model
pub use Rattle.domain_attaching.specs.fileset_values
pub use Rattle.memory_disk.specs as memory_disk
pub use Rattle.domain_attaching.specs.plain_program
pub use Rattle.run_parts.specs as run_parts
pub use Rattle.run_parts.specs.script_text
pub use Rattle.domain_attaching.specs.volume_disk
