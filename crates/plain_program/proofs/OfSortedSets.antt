-- What is named above of the proofs of sorted_sets.
pub use Rattle.legal_histories.proofs.OfSortedSets.EntryLemmas
