-- What is named above of the proofs of metadata_cells.
pub use Rattle.page_faults.proofs.OfMetadataCells.Changed
pub use Rattle.page_faults.proofs.OfMetadataCells.Linked
pub use Rattle.page_faults.proofs.OfMetadataCells.Walk
