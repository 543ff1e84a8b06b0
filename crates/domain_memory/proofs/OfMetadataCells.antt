-- What is named above of the proofs of metadata_cells.
pub use Rattle.standing_laws.proofs.OfMetadataCells.CellKinds
pub use Rattle.standing_laws.proofs.OfMetadataCells.Changed
pub use Rattle.standing_laws.proofs.OfMetadataCells.Linked
pub use Rattle.standing_laws.proofs.OfMetadataCells.Unique
pub use Rattle.standing_laws.proofs.OfMetadataCells.Walk
