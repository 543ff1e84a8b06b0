-- What is named above of the proofs of sorted_sets.
pub use Rattle.domain_layout.proofs.OfSortedSets.Below
pub use Rattle.domain_layout.proofs.OfSortedSets.Found
pub use Rattle.domain_layout.proofs.OfSortedSets.Items
pub use Rattle.domain_layout.proofs.OfSortedSets.Placed
pub use Rattle.domain_layout.proofs.OfSortedSets.Search
