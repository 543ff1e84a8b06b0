-- What is named above of the proofs of sorted_sets.
pub use Rattle.fileset_files.proofs.OfSortedSets.Below
pub use Rattle.fileset_files.proofs.OfSortedSets.EntryLemmas
pub use Rattle.fileset_files.proofs.OfSortedSets.Found
pub use Rattle.fileset_files.proofs.OfSortedSets.Items
pub use Rattle.fileset_files.proofs.OfSortedSets.Placed
pub use Rattle.fileset_files.proofs.OfSortedSets.Removal
pub use Rattle.fileset_files.proofs.OfSortedSets.Search
