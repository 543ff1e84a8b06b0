pub mod Apply
pub mod Fileset
pub mod Filesets
pub mod LooksLike
pub mod Pages
pub mod Paths
pub mod Usage
pub use Rattle.fileset_values.specs.domain_base
pub use Rattle.fileset_values.specs as fileset_values
pub use Rattle.sorted_sets.specs as sorted_sets
