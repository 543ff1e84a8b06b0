-- What is named above of the proofs of free_cells.
pub use Rattle.free_cells.proofs.Belongs
pub use Rattle.free_cells.proofs.Kept
pub use Rattle.free_cells.proofs.MarkVolumes
pub use Rattle.free_cells.proofs.PutThere
pub use Rattle.free_cells.proofs.Volumes
