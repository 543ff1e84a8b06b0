-- What is named above of the proofs of free_cells.
pub use Rattle.file_release.proofs.OfFreeCells.Belongs
pub use Rattle.file_release.proofs.OfFreeCells.Kept
pub use Rattle.file_release.proofs.OfFreeCells.MarkVolumes
