-- What is named above of the proofs of legal_histories.
pub use Rattle.name_commands.proofs.OfLegalHistories.GoesOn
pub use Rattle.name_commands.proofs.OfLegalHistories.Inside
pub use Rattle.name_commands.proofs.OfLegalHistories.PlainLemmas
