-- What is named above of the proofs of free_cells.
pub use Rattle.domain_standing.proofs.OfFreeCells.Belongs
pub use Rattle.domain_standing.proofs.OfFreeCells.Kept
pub use Rattle.domain_standing.proofs.OfFreeCells.MarkVolumes
