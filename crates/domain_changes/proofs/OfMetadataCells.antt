-- What is named above of the proofs of metadata_cells.
pub use Rattle.domain_memory.proofs.OfMetadataCells.Changed
