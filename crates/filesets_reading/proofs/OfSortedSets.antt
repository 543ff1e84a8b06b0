-- What is named above of the proofs of sorted_sets.
pub use Rattle.domain_layout.proofs.OfSortedSets.EntryLemmas
pub use Rattle.domain_layout.proofs.OfSortedSets.Removal
