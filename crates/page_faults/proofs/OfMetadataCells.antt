-- What is named above of the proofs of metadata_cells.
pub use Rattle.tag_faults.proofs.OfMetadataCells.Changed
pub use Rattle.tag_faults.proofs.OfMetadataCells.Linked
pub use Rattle.tag_faults.proofs.OfMetadataCells.Walk
