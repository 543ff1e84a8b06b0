-- What is named above of the proofs of sorted_sets.
pub use Rattle.tag_faults.proofs.OfSortedSets.Placed
pub use Rattle.tag_faults.proofs.OfSortedSets.Search
