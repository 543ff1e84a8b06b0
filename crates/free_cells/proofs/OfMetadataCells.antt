-- What is named above of the proofs of metadata_cells.
pub use Rattle.metadata_cells.proofs.CellKinds
pub use Rattle.metadata_cells.proofs.Changed
pub use Rattle.metadata_cells.proofs.Frames
pub use Rattle.metadata_cells.proofs.Linked
pub use Rattle.metadata_cells.proofs.OneByOne
pub use Rattle.metadata_cells.proofs.Places
pub use Rattle.metadata_cells.proofs.Spellings
pub use Rattle.metadata_cells.proofs.Unique
pub use Rattle.metadata_cells.proofs.Walk
