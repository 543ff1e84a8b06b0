-- What is named above of the proofs of extent_maps.
pub use Rattle.fileset_files.proofs.OfExtentMaps.EditLemmas
pub use Rattle.fileset_files.proofs.OfExtentMaps.RunLemmas
