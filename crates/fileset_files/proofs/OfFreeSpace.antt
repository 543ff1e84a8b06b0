-- What is named above of the proofs of free_space.
pub use Rattle.file_chains.proofs.OfFreeSpace.Apart
pub use Rattle.file_chains.proofs.OfFreeSpace.Freeing
pub use Rattle.file_chains.proofs.OfFreeSpace.Kept
pub use Rattle.file_chains.proofs.OfFreeSpace.Places
pub use Rattle.file_chains.proofs.OfFreeSpace.Used
pub use Rattle.file_chains.proofs.OfFreeSpace.WrongBits
