-- What is named above of the proofs of sorted_sets.
pub use Rattle.file_release.proofs.OfSortedSets.Below
pub use Rattle.file_release.proofs.OfSortedSets.EntryLemmas
pub use Rattle.file_release.proofs.OfSortedSets.Found
pub use Rattle.file_release.proofs.OfSortedSets.Items
pub use Rattle.file_release.proofs.OfSortedSets.Placed
pub use Rattle.file_release.proofs.OfSortedSets.Removal
pub use Rattle.file_release.proofs.OfSortedSets.Search
