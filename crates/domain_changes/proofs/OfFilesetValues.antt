-- What is named above of the proofs of fileset_values.
pub use Rattle.domain_memory.proofs.OfFilesetValues.MapLemmas
