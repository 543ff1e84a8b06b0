-- What is named above of the proofs of fileset_values.
pub use Rattle.standing_laws.proofs.OfFilesetValues.MapLemmas
