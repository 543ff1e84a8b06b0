-- What is named above of the proofs of metadata_cells.
pub use Rattle.domain_layout.proofs.OfMetadataCells.CellKinds
pub use Rattle.domain_layout.proofs.OfMetadataCells.Changed
pub use Rattle.domain_layout.proofs.OfMetadataCells.Linked
pub use Rattle.domain_layout.proofs.OfMetadataCells.Unique
pub use Rattle.domain_layout.proofs.OfMetadataCells.Walk
