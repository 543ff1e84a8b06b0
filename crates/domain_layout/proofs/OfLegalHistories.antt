-- What is named above of the proofs of legal_histories.
pub use Rattle.name_space.proofs.OfLegalHistories.GoesOn
pub use Rattle.name_space.proofs.OfLegalHistories.ImageLemmas
pub use Rattle.name_space.proofs.OfLegalHistories.Inside
pub use Rattle.name_space.proofs.OfLegalHistories.PlainLemmas
pub use Rattle.name_space.proofs.OfLegalHistories.Restamped
pub use Rattle.name_space.proofs.OfLegalHistories.SumLemmas
pub use Rattle.name_space.proofs.OfLegalHistories.ValidCheckLemmas
pub use Rattle.name_space.proofs.OfLegalHistories.ValidLemmas
pub use Rattle.name_space.proofs.OfLegalHistories.ValidMoveLemmas
pub use Rattle.name_space.proofs.OfLegalHistories.ValidTreeLemmas
