-- What is named above of the proofs of word_forms.
pub use Rattle.word_forms.proofs.ContentRead
pub use Rattle.word_forms.proofs.Cuts
pub use Rattle.word_forms.proofs.EachLemmas
pub use Rattle.word_forms.proofs.Joined
pub use Rattle.word_forms.proofs.NamesRead
pub use Rattle.word_forms.proofs.NumbersRead
pub use Rattle.word_forms.proofs.PlacesRead
pub use Rattle.word_forms.proofs.ReadForms
