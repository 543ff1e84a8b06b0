-- What is named above of the proofs of extent_maps.
pub use Rattle.file_chains.proofs.OfExtentMaps.EditLemmas
pub use Rattle.file_chains.proofs.OfExtentMaps.RunLemmas
