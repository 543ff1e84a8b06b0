pub mod Forms
pub mod Read
pub mod Runs
pub mod Texts
pub mod WellFormed
pub use Rattle.fileset_values.specs.domain_base
pub use Rattle.fileset_values.specs as fileset_values
