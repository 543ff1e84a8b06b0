-- What is named above of the proofs of metadata_cells.
pub use Rattle.domain_standing.proofs.OfMetadataCells.CellKinds
pub use Rattle.domain_standing.proofs.OfMetadataCells.Changed
pub use Rattle.domain_standing.proofs.OfMetadataCells.Linked
pub use Rattle.domain_standing.proofs.OfMetadataCells.Unique
pub use Rattle.domain_standing.proofs.OfMetadataCells.Walk
