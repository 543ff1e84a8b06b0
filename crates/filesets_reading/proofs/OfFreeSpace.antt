-- What is named above of the proofs of free_space.
pub use Rattle.domain_layout.proofs.OfFreeSpace.Apart
pub use Rattle.domain_layout.proofs.OfFreeSpace.Freeing
pub use Rattle.domain_layout.proofs.OfFreeSpace.Kept
pub use Rattle.domain_layout.proofs.OfFreeSpace.Places
pub use Rattle.domain_layout.proofs.OfFreeSpace.Used
pub use Rattle.domain_layout.proofs.OfFreeSpace.WrongBits
