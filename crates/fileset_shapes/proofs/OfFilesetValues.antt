-- What is named above of the proofs of fileset_values.
pub use Rattle.filesets_reading.proofs.OfFilesetValues.MapLemmas
