-- What is named above of the proofs of free_space.
pub use Rattle.filesets_reading.proofs.OfFreeSpace.Apart
pub use Rattle.filesets_reading.proofs.OfFreeSpace.Freeing
pub use Rattle.filesets_reading.proofs.OfFreeSpace.Kept
pub use Rattle.filesets_reading.proofs.OfFreeSpace.Places
pub use Rattle.filesets_reading.proofs.OfFreeSpace.Used
pub use Rattle.filesets_reading.proofs.OfFreeSpace.WrongBits
