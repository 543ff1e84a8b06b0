-- What is named above of the proofs of legal_histories.
pub use Rattle.plain_program.proofs.OfLegalHistories.GoesOn
pub use Rattle.plain_program.proofs.OfLegalHistories.ImageLemmas
pub use Rattle.plain_program.proofs.OfLegalHistories.Inside
pub use Rattle.plain_program.proofs.OfLegalHistories.LooksLemmas
pub use Rattle.plain_program.proofs.OfLegalHistories.PlainLemmas
pub use Rattle.plain_program.proofs.OfLegalHistories.Restamped
pub use Rattle.plain_program.proofs.OfLegalHistories.SumLemmas
pub use Rattle.plain_program.proofs.OfLegalHistories.ValidCheckLemmas
pub use Rattle.plain_program.proofs.OfLegalHistories.ValidLemmas
pub use Rattle.plain_program.proofs.OfLegalHistories.ValidMoveLemmas
pub use Rattle.plain_program.proofs.OfLegalHistories.ValidTreeLemmas
