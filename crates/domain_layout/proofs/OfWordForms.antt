-- What is named above of the proofs of word_forms.
pub use Rattle.fileset_table.proofs.OfWordForms.Cuts
pub use Rattle.fileset_table.proofs.OfWordForms.ReadForms
