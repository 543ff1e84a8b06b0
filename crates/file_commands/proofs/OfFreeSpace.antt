-- What is named above of the proofs of free_space.
pub use Rattle.name_commands.proofs.OfFreeSpace.Apart
pub use Rattle.name_commands.proofs.OfFreeSpace.Kept
