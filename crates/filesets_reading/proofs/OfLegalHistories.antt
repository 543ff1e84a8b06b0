-- What is named above of the proofs of legal_histories.
pub use Rattle.domain_layout.proofs.OfLegalHistories.GoesOn
pub use Rattle.domain_layout.proofs.OfLegalHistories.ImageLemmas
pub use Rattle.domain_layout.proofs.OfLegalHistories.Inside
pub use Rattle.domain_layout.proofs.OfLegalHistories.PlainLemmas
pub use Rattle.domain_layout.proofs.OfLegalHistories.Restamped
pub use Rattle.domain_layout.proofs.OfLegalHistories.SumLemmas
pub use Rattle.domain_layout.proofs.OfLegalHistories.ValidCheckLemmas
pub use Rattle.domain_layout.proofs.OfLegalHistories.ValidLemmas
pub use Rattle.domain_layout.proofs.OfLegalHistories.ValidMoveLemmas
pub use Rattle.domain_layout.proofs.OfLegalHistories.ValidTreeLemmas
