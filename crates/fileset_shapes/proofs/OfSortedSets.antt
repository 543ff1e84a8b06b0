-- What is named above of the proofs of sorted_sets.
pub use Rattle.filesets_reading.proofs.OfSortedSets.EntryLemmas
pub use Rattle.filesets_reading.proofs.OfSortedSets.Removal
