-- What is named above of the proofs of fileset_values.
pub use Rattle.fileset_shapes.proofs.OfFilesetValues.MapLemmas
