-- What is named above of the proofs of sorted_sets.
pub use Rattle.page_store.proofs.OfSortedSets.Below
pub use Rattle.page_store.proofs.OfSortedSets.EntryLemmas
pub use Rattle.page_store.proofs.OfSortedSets.Found
pub use Rattle.page_store.proofs.OfSortedSets.Items
pub use Rattle.page_store.proofs.OfSortedSets.Placed
pub use Rattle.page_store.proofs.OfSortedSets.Removal
pub use Rattle.page_store.proofs.OfSortedSets.Search
