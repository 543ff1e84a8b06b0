-- What is named above of the proofs of extent_maps.
pub use Rattle.page_ways.proofs.OfExtentMaps.EditLemmas
