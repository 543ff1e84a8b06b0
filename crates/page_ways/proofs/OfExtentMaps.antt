-- What is named above of the proofs of extent_maps.
pub use Rattle.domain_layout.proofs.OfExtentMaps.EditLemmas
