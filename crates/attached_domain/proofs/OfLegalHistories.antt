-- What is named above of the proofs of legal_histories.
pub use Rattle.no_faults.proofs.OfLegalHistories.Inside
