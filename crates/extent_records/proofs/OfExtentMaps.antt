-- What is named above of the proofs of extent_maps.
pub use Rattle.extent_maps.proofs.EditLemmas
pub use Rattle.extent_maps.proofs.RunLemmas
