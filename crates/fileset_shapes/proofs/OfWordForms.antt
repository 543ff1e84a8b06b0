-- What is named above of the proofs of word_forms.
pub use Rattle.filesets_reading.proofs.OfWordForms.Cuts
pub use Rattle.filesets_reading.proofs.OfWordForms.ReadForms
