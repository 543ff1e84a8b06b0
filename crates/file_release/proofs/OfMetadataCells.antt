-- What is named above of the proofs of metadata_cells.
pub use Rattle.fileset_files.proofs.OfMetadataCells.CellKinds
pub use Rattle.fileset_files.proofs.OfMetadataCells.Changed
pub use Rattle.fileset_files.proofs.OfMetadataCells.Frames
pub use Rattle.fileset_files.proofs.OfMetadataCells.Linked
pub use Rattle.fileset_files.proofs.OfMetadataCells.OneByOne
pub use Rattle.fileset_files.proofs.OfMetadataCells.Places
pub use Rattle.fileset_files.proofs.OfMetadataCells.Spellings
pub use Rattle.fileset_files.proofs.OfMetadataCells.Unique
pub use Rattle.fileset_files.proofs.OfMetadataCells.Walk
