-- What is named above of the proofs of metadata_cells.
pub use Rattle.page_ways.proofs.OfMetadataCells.Changed
pub use Rattle.page_ways.proofs.OfMetadataCells.Linked
pub use Rattle.page_ways.proofs.OfMetadataCells.Unique
pub use Rattle.page_ways.proofs.OfMetadataCells.Walk
