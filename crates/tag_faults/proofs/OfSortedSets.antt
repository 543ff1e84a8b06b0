-- What is named above of the proofs of sorted_sets.
pub use Rattle.cell_faults.proofs.OfSortedSets.Below
pub use Rattle.cell_faults.proofs.OfSortedSets.Items
pub use Rattle.cell_faults.proofs.OfSortedSets.Placed
pub use Rattle.cell_faults.proofs.OfSortedSets.Search
