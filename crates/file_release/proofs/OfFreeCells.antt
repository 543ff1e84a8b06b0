-- What is named above of the proofs of free_cells.
pub use Rattle.fileset_files.proofs.OfFreeCells.Belongs
pub use Rattle.fileset_files.proofs.OfFreeCells.Kept
pub use Rattle.fileset_files.proofs.OfFreeCells.MarkVolumes
pub use Rattle.fileset_files.proofs.OfFreeCells.PutThere
pub use Rattle.fileset_files.proofs.OfFreeCells.Volumes
