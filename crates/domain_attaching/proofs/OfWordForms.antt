-- What is named above of the proofs of word_forms.
pub use Rattle.attached_domain.proofs.OfWordForms.Cuts
pub use Rattle.attached_domain.proofs.OfWordForms.ReadForms
