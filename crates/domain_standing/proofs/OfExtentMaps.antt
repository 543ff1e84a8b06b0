-- What is named above of the proofs of extent_maps.
pub use Rattle.fileset_shapes.proofs.OfExtentMaps.EditLemmas
