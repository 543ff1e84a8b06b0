-- What is named above of the proofs of metadata_cells.
pub use Rattle.free_cells.proofs.OfMetadataCells.CellKinds
pub use Rattle.free_cells.proofs.OfMetadataCells.Changed
pub use Rattle.free_cells.proofs.OfMetadataCells.Frames
pub use Rattle.free_cells.proofs.OfMetadataCells.Linked
pub use Rattle.free_cells.proofs.OfMetadataCells.OneByOne
pub use Rattle.free_cells.proofs.OfMetadataCells.Places
pub use Rattle.free_cells.proofs.OfMetadataCells.Spellings
pub use Rattle.free_cells.proofs.OfMetadataCells.Unique
pub use Rattle.free_cells.proofs.OfMetadataCells.Walk
