-- What is named above of the proofs of metadata_cells.
pub use Rattle.no_faults.proofs.OfMetadataCells.Unique
