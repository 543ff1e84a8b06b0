-- What is named above of the proofs of sorted_sets.
pub use Rattle.file_release.proofs.OfSortedSets.EntryLemmas
