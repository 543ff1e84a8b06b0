-- What is named above of the proofs of stored_set.
pub use Rattle.domain_memory.proofs.OfStoredSet.Stable
pub use Rattle.domain_memory.proofs.OfStoredSet.Told
