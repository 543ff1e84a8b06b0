-- What is named above of the proofs of sorted_sets.
pub use Rattle.sorted_sets.proofs.Below
pub use Rattle.sorted_sets.proofs.EntryLemmas
pub use Rattle.sorted_sets.proofs.Found
pub use Rattle.sorted_sets.proofs.Items
pub use Rattle.sorted_sets.proofs.Placed
pub use Rattle.sorted_sets.proofs.Removal
pub use Rattle.sorted_sets.proofs.Search
