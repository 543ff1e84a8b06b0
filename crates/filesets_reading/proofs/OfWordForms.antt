-- What is named above of the proofs of word_forms.
pub use Rattle.domain_layout.proofs.OfWordForms.Cuts
pub use Rattle.domain_layout.proofs.OfWordForms.ReadForms
