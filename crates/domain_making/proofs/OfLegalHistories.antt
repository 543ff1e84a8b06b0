-- What is named above of the proofs of legal_histories.
pub use Rattle.domain_layout.proofs.OfLegalHistories.ValidTreeLemmas
