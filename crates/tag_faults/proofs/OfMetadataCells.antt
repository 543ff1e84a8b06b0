-- What is named above of the proofs of metadata_cells.
pub use Rattle.cell_faults.proofs.OfMetadataCells.Changed
pub use Rattle.cell_faults.proofs.OfMetadataCells.Linked
pub use Rattle.cell_faults.proofs.OfMetadataCells.Unique
pub use Rattle.cell_faults.proofs.OfMetadataCells.Walk
