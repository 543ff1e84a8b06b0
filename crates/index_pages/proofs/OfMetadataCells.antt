-- What is named above of the proofs of metadata_cells.
pub use Rattle.file_release.proofs.OfMetadataCells.Changed
pub use Rattle.file_release.proofs.OfMetadataCells.Unique
