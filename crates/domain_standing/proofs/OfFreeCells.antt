-- What is named above of the proofs of free_cells.
pub use Rattle.fileset_shapes.proofs.OfFreeCells.Belongs
pub use Rattle.fileset_shapes.proofs.OfFreeCells.Kept
pub use Rattle.fileset_shapes.proofs.OfFreeCells.MarkVolumes
