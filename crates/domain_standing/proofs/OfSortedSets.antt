-- What is named above of the proofs of sorted_sets.
pub use Rattle.fileset_shapes.proofs.OfSortedSets.EntryLemmas
pub use Rattle.fileset_shapes.proofs.OfSortedSets.Removal
