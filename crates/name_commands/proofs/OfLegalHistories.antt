-- What is named above of the proofs of legal_histories.
pub use Rattle.domain_changes.proofs.OfLegalHistories.GoesOn
pub use Rattle.domain_changes.proofs.OfLegalHistories.ImageLemmas
pub use Rattle.domain_changes.proofs.OfLegalHistories.Inside
pub use Rattle.domain_changes.proofs.OfLegalHistories.PlainLemmas
