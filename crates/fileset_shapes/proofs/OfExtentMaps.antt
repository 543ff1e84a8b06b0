-- What is named above of the proofs of extent_maps.
pub use Rattle.filesets_reading.proofs.OfExtentMaps.EditLemmas
