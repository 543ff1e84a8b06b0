-- What is named above of the proofs of word_forms.
pub use Rattle.word_forms.proofs.Cuts
pub use Rattle.word_forms.proofs.ReadForms
