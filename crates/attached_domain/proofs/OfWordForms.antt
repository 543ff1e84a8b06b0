-- What is named above of the proofs of word_forms.
pub use Rattle.no_faults.proofs.OfWordForms.Cuts
pub use Rattle.no_faults.proofs.OfWordForms.ReadForms
