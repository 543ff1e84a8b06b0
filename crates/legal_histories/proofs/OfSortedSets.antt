-- What is named above of the proofs of sorted_sets.
pub use Rattle.fileset_model.proofs.OfSortedSets.EntryLemmas
