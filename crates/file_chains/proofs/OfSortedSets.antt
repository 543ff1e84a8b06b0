-- What is named above of the proofs of sorted_sets.
pub use Rattle.free_cells.proofs.OfSortedSets.Below
pub use Rattle.free_cells.proofs.OfSortedSets.EntryLemmas
pub use Rattle.free_cells.proofs.OfSortedSets.Found
pub use Rattle.free_cells.proofs.OfSortedSets.Items
pub use Rattle.free_cells.proofs.OfSortedSets.Placed
pub use Rattle.free_cells.proofs.OfSortedSets.Removal
pub use Rattle.free_cells.proofs.OfSortedSets.Search
