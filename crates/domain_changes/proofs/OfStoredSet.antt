-- What is named above of the proofs of stored_set.
pub use Rattle.domain_memory.proofs.OfStoredSet.GivenBack
pub use Rattle.domain_memory.proofs.OfStoredSet.Indexed
pub use Rattle.domain_memory.proofs.OfStoredSet.Stable
pub use Rattle.domain_memory.proofs.OfStoredSet.StableFiles
pub use Rattle.domain_memory.proofs.OfStoredSet.StableSets
pub use Rattle.domain_memory.proofs.OfStoredSet.TakenAway
pub use Rattle.domain_memory.proofs.OfStoredSet.Together
