-- What is named above of the proofs of sorted_sets.
pub use Rattle.standing_laws.proofs.OfSortedSets.EntryLemmas
pub use Rattle.standing_laws.proofs.OfSortedSets.Removal
