-- What is named above of the proofs of legal_histories.
pub use Rattle.file_commands.proofs.OfLegalHistories.GoesOn
pub use Rattle.file_commands.proofs.OfLegalHistories.PlainLemmas
