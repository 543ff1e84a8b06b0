-- What is named above of the proofs of legal_histories.
pub use Rattle.domain_memory.proofs.OfLegalHistories.GoesOn
pub use Rattle.domain_memory.proofs.OfLegalHistories.ImageLemmas
pub use Rattle.domain_memory.proofs.OfLegalHistories.Inside
pub use Rattle.domain_memory.proofs.OfLegalHistories.PlainLemmas
