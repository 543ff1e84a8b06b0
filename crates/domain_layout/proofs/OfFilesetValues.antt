-- What is named above of the proofs of fileset_values.
pub use Rattle.name_space.proofs.OfFilesetValues.MapLemmas
