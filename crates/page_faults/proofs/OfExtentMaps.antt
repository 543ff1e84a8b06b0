-- What is named above of the proofs of extent_maps.
pub use Rattle.tag_faults.proofs.OfExtentMaps.EditLemmas
