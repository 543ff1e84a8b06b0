-- What is named above of the proofs of metadata_cells.
pub use Rattle.file_chains.proofs.OfMetadataCells.CellKinds
pub use Rattle.file_chains.proofs.OfMetadataCells.Changed
pub use Rattle.file_chains.proofs.OfMetadataCells.Frames
pub use Rattle.file_chains.proofs.OfMetadataCells.Linked
pub use Rattle.file_chains.proofs.OfMetadataCells.OneByOne
pub use Rattle.file_chains.proofs.OfMetadataCells.Places
pub use Rattle.file_chains.proofs.OfMetadataCells.Spellings
pub use Rattle.file_chains.proofs.OfMetadataCells.Unique
pub use Rattle.file_chains.proofs.OfMetadataCells.Walk
