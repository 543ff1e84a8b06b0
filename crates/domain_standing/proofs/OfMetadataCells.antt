-- What is named above of the proofs of metadata_cells.
pub use Rattle.fileset_shapes.proofs.OfMetadataCells.CellKinds
pub use Rattle.fileset_shapes.proofs.OfMetadataCells.Changed
pub use Rattle.fileset_shapes.proofs.OfMetadataCells.Linked
pub use Rattle.fileset_shapes.proofs.OfMetadataCells.Unique
pub use Rattle.fileset_shapes.proofs.OfMetadataCells.Walk
