-- What is named above of the proofs of extent_maps.
pub use Rattle.file_release.proofs.OfExtentMaps.EditLemmas
pub use Rattle.file_release.proofs.OfExtentMaps.RunLemmas
