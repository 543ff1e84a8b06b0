-- What is named above of the proofs of sorted_sets.
pub use Rattle.sorted_sets.proofs.EntryLemmas
pub use Rattle.sorted_sets.proofs.Removal
