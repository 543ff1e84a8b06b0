-- What is named above of the proofs of extent_maps.
pub use Rattle.standing_laws.proofs.OfExtentMaps.EditLemmas
