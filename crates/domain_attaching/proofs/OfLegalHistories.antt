-- What is named above of the proofs of legal_histories.
pub use Rattle.attached_domain.proofs.OfLegalHistories.Inside
