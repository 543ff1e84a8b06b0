-- What is named above of the proofs of extent_maps.
pub use Rattle.index_row_faults.proofs.OfExtentMaps.EditLemmas
