-- What is named above of the proofs of metadata_cells.
pub use Rattle.index_row_faults.proofs.OfMetadataCells.Changed
