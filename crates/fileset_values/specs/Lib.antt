pub mod Orders
pub mod Shuffle
pub use Rattle.domain_base.specs as domain_base
