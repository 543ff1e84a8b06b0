-- What is named above of the proofs of free_space.
pub use Rattle.file_release.proofs.OfFreeSpace.Used
