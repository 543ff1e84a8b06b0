-- What is named above of the proofs of stored_set.
pub use Rattle.domain_changes.proofs.OfStoredSet.Stable
