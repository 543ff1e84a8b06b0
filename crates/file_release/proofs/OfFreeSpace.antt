-- What is named above of the proofs of free_space.
pub use Rattle.fileset_files.proofs.OfFreeSpace.Apart
pub use Rattle.fileset_files.proofs.OfFreeSpace.Freeing
pub use Rattle.fileset_files.proofs.OfFreeSpace.Kept
pub use Rattle.fileset_files.proofs.OfFreeSpace.Places
pub use Rattle.fileset_files.proofs.OfFreeSpace.Used
pub use Rattle.fileset_files.proofs.OfFreeSpace.WrongBits
