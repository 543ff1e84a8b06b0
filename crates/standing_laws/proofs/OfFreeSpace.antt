-- What is named above of the proofs of free_space.
pub use Rattle.domain_standing.proofs.OfFreeSpace.Apart
pub use Rattle.domain_standing.proofs.OfFreeSpace.Freeing
pub use Rattle.domain_standing.proofs.OfFreeSpace.Kept
pub use Rattle.domain_standing.proofs.OfFreeSpace.Places
pub use Rattle.domain_standing.proofs.OfFreeSpace.Used
pub use Rattle.domain_standing.proofs.OfFreeSpace.WrongBits
