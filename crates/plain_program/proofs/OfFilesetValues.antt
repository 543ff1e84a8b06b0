-- What is named above of the proofs of fileset_values.
pub use Rattle.legal_histories.proofs.OfFilesetValues.MapLemmas
