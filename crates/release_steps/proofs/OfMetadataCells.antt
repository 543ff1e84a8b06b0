-- What is named above of the proofs of metadata_cells.
pub use Rattle.release_list.proofs.OfMetadataCells.Changed
