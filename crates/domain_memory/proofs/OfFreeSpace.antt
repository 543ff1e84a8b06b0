-- What is named above of the proofs of free_space.
pub use Rattle.standing_laws.proofs.OfFreeSpace.Apart
pub use Rattle.standing_laws.proofs.OfFreeSpace.Kept
