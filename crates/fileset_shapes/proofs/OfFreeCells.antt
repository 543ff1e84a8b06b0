-- What is named above of the proofs of free_cells.
pub use Rattle.filesets_reading.proofs.OfFreeCells.Belongs
pub use Rattle.filesets_reading.proofs.OfFreeCells.Kept
pub use Rattle.filesets_reading.proofs.OfFreeCells.MarkVolumes
