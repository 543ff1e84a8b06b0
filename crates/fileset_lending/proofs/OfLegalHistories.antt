-- What is named above of the proofs of legal_histories.
pub use Rattle.domain_memory.proofs.OfLegalHistories.ValidCheckLemmas
pub use Rattle.domain_memory.proofs.OfLegalHistories.ValidLemmas
