pub mod Stops
pub mod Members
pub use Rattle.legal_histories.specs.domain_base
pub use Rattle.legal_histories.specs.fileset_model
pub use Rattle.legal_histories.specs.fileset_values
pub use Rattle.legal_histories.specs as legal_histories
pub use Rattle.legal_histories.specs.sorted_sets
