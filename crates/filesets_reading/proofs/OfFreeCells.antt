-- What is named above of the proofs of free_cells.
pub use Rattle.domain_layout.proofs.OfFreeCells.Belongs
pub use Rattle.domain_layout.proofs.OfFreeCells.Kept
pub use Rattle.domain_layout.proofs.OfFreeCells.MarkVolumes
