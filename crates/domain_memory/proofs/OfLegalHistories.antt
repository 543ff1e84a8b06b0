-- What is named above of the proofs of legal_histories.
pub use Rattle.standing_laws.proofs.OfLegalHistories.GoesOn
pub use Rattle.standing_laws.proofs.OfLegalHistories.ImageLemmas
pub use Rattle.standing_laws.proofs.OfLegalHistories.Inside
pub use Rattle.standing_laws.proofs.OfLegalHistories.PlainLemmas
pub use Rattle.standing_laws.proofs.OfLegalHistories.Restamped
pub use Rattle.standing_laws.proofs.OfLegalHistories.SumLemmas
pub use Rattle.standing_laws.proofs.OfLegalHistories.ValidCheckLemmas
pub use Rattle.standing_laws.proofs.OfLegalHistories.ValidLemmas
