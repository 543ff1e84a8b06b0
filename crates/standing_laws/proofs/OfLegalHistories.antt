-- What is named above of the proofs of legal_histories.
pub use Rattle.domain_standing.proofs.OfLegalHistories.GoesOn
pub use Rattle.domain_standing.proofs.OfLegalHistories.ImageLemmas
pub use Rattle.domain_standing.proofs.OfLegalHistories.Inside
pub use Rattle.domain_standing.proofs.OfLegalHistories.PlainLemmas
pub use Rattle.domain_standing.proofs.OfLegalHistories.Restamped
pub use Rattle.domain_standing.proofs.OfLegalHistories.SumLemmas
pub use Rattle.domain_standing.proofs.OfLegalHistories.ValidCheckLemmas
pub use Rattle.domain_standing.proofs.OfLegalHistories.ValidLemmas
pub use Rattle.domain_standing.proofs.OfLegalHistories.ValidMoveLemmas
pub use Rattle.domain_standing.proofs.OfLegalHistories.ValidTreeLemmas
