-- What is named above of the proofs of extent_maps.
pub use Rattle.slot_files.proofs.OfExtentMaps.EditLemmas
