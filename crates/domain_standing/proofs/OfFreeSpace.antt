-- What is named above of the proofs of free_space.
pub use Rattle.fileset_shapes.proofs.OfFreeSpace.Apart
pub use Rattle.fileset_shapes.proofs.OfFreeSpace.Freeing
pub use Rattle.fileset_shapes.proofs.OfFreeSpace.Kept
pub use Rattle.fileset_shapes.proofs.OfFreeSpace.Places
pub use Rattle.fileset_shapes.proofs.OfFreeSpace.Used
pub use Rattle.fileset_shapes.proofs.OfFreeSpace.WrongBits
