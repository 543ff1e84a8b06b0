-- What is named above of the proofs of word_forms.
pub use Rattle.domain_standing.proofs.OfWordForms.Cuts
pub use Rattle.domain_standing.proofs.OfWordForms.ReadForms
