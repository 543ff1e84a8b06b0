-- What is named above of the proofs of free_space.
pub use Rattle.domain_changes.proofs.OfFreeSpace.Apart
pub use Rattle.domain_changes.proofs.OfFreeSpace.Kept
