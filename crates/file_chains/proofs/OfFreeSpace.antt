-- What is named above of the proofs of free_space.
pub use Rattle.free_cells.proofs.OfFreeSpace.Apart
pub use Rattle.free_cells.proofs.OfFreeSpace.Freeing
pub use Rattle.free_cells.proofs.OfFreeSpace.Kept
pub use Rattle.free_cells.proofs.OfFreeSpace.Places
pub use Rattle.free_cells.proofs.OfFreeSpace.Used
pub use Rattle.free_cells.proofs.OfFreeSpace.WrongBits
