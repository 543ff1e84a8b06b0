-- What is named above of the proofs of extent_maps.
pub use Rattle.extent_records.proofs.OfExtentMaps.EditLemmas
pub use Rattle.extent_records.proofs.OfExtentMaps.RunLemmas
