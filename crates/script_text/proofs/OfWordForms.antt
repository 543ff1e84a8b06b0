-- What is named above of the proofs of word_forms.
pub use Rattle.command_text.proofs.OfWordForms.ContentRead
pub use Rattle.command_text.proofs.OfWordForms.Cuts
pub use Rattle.command_text.proofs.OfWordForms.EachLemmas
pub use Rattle.command_text.proofs.OfWordForms.Joined
pub use Rattle.command_text.proofs.OfWordForms.NamesRead
pub use Rattle.command_text.proofs.OfWordForms.NumbersRead
pub use Rattle.command_text.proofs.OfWordForms.PlacesRead
pub use Rattle.command_text.proofs.OfWordForms.ReadForms
