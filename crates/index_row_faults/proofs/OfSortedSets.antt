-- What is named above of the proofs of sorted_sets.
pub use Rattle.page_faults.proofs.OfSortedSets.Placed
pub use Rattle.page_faults.proofs.OfSortedSets.Search
