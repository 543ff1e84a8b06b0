-- What is named above of the proofs of sorted_sets.
pub use Rattle.file_chains.proofs.OfSortedSets.Below
pub use Rattle.file_chains.proofs.OfSortedSets.EntryLemmas
pub use Rattle.file_chains.proofs.OfSortedSets.Found
pub use Rattle.file_chains.proofs.OfSortedSets.Items
pub use Rattle.file_chains.proofs.OfSortedSets.Placed
pub use Rattle.file_chains.proofs.OfSortedSets.Removal
pub use Rattle.file_chains.proofs.OfSortedSets.Search
