-- What is named above of the proofs of metadata_cells.
pub use Rattle.file_release.proofs.OfMetadataCells.CellKinds
pub use Rattle.file_release.proofs.OfMetadataCells.Changed
pub use Rattle.file_release.proofs.OfMetadataCells.Linked
pub use Rattle.file_release.proofs.OfMetadataCells.OneByOne
pub use Rattle.file_release.proofs.OfMetadataCells.Unique
pub use Rattle.file_release.proofs.OfMetadataCells.Walk
