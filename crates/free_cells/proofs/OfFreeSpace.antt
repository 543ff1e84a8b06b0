-- What is named above of the proofs of free_space.
pub use Rattle.free_space.proofs.Apart
pub use Rattle.free_space.proofs.Freeing
pub use Rattle.free_space.proofs.Kept
pub use Rattle.free_space.proofs.Places
pub use Rattle.free_space.proofs.Used
pub use Rattle.free_space.proofs.WrongBits
