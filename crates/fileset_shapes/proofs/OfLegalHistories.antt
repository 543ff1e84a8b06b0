-- What is named above of the proofs of legal_histories.
pub use Rattle.filesets_reading.proofs.OfLegalHistories.GoesOn
pub use Rattle.filesets_reading.proofs.OfLegalHistories.ImageLemmas
pub use Rattle.filesets_reading.proofs.OfLegalHistories.Inside
pub use Rattle.filesets_reading.proofs.OfLegalHistories.PlainLemmas
pub use Rattle.filesets_reading.proofs.OfLegalHistories.Restamped
pub use Rattle.filesets_reading.proofs.OfLegalHistories.SumLemmas
pub use Rattle.filesets_reading.proofs.OfLegalHistories.ValidCheckLemmas
pub use Rattle.filesets_reading.proofs.OfLegalHistories.ValidLemmas
pub use Rattle.filesets_reading.proofs.OfLegalHistories.ValidMoveLemmas
pub use Rattle.filesets_reading.proofs.OfLegalHistories.ValidTreeLemmas
