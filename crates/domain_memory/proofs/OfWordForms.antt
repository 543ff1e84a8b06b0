-- What is named above of the proofs of word_forms.
pub use Rattle.standing_laws.proofs.OfWordForms.Cuts
pub use Rattle.standing_laws.proofs.OfWordForms.ReadForms
