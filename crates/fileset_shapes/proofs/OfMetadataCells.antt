-- What is named above of the proofs of metadata_cells.
pub use Rattle.filesets_reading.proofs.OfMetadataCells.CellKinds
pub use Rattle.filesets_reading.proofs.OfMetadataCells.Changed
pub use Rattle.filesets_reading.proofs.OfMetadataCells.Linked
pub use Rattle.filesets_reading.proofs.OfMetadataCells.Unique
pub use Rattle.filesets_reading.proofs.OfMetadataCells.Walk
