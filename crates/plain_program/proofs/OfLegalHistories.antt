-- What is named above of the proofs of legal_histories.
pub use Rattle.legal_histories.proofs.GoesOn
pub use Rattle.legal_histories.proofs.ImageLemmas
pub use Rattle.legal_histories.proofs.Inside
pub use Rattle.legal_histories.proofs.LooksLemmas
pub use Rattle.legal_histories.proofs.PlainLemmas
pub use Rattle.legal_histories.proofs.Restamped
pub use Rattle.legal_histories.proofs.SumLemmas
pub use Rattle.legal_histories.proofs.ValidCheckLemmas
pub use Rattle.legal_histories.proofs.ValidCountLemmas
pub use Rattle.legal_histories.proofs.ValidLemmas
pub use Rattle.legal_histories.proofs.ValidMoveLemmas
pub use Rattle.legal_histories.proofs.ValidSetLemmas
pub use Rattle.legal_histories.proofs.ValidTreeLemmas
