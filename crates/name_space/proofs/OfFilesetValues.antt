-- What is named above of the proofs of fileset_values.
pub use Rattle.plain_program.proofs.OfFilesetValues.MapLemmas
