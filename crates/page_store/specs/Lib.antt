pub mod Bitfiles
pub mod Pages
pub mod Homes
pub mod PageChanges
pub mod Tags
pub use Rattle.sorted_sets.specs.domain_base
pub use Rattle.sorted_sets.specs as sorted_sets
