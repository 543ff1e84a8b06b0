-- What is named above of the proofs of free_cells.
pub use Rattle.file_chains.proofs.OfFreeCells.Belongs
pub use Rattle.file_chains.proofs.OfFreeCells.Kept
pub use Rattle.file_chains.proofs.OfFreeCells.MarkVolumes
pub use Rattle.file_chains.proofs.OfFreeCells.PutThere
pub use Rattle.file_chains.proofs.OfFreeCells.Volumes
