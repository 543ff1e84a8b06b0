-- What is named above of the proofs of log_recovery.
pub use Rattle.log_recovery.proofs.GoodAnchors
pub use Rattle.log_recovery.proofs.OneOutcome
pub use Rattle.log_recovery.proofs.Reading
pub use Rattle.log_recovery.proofs.Settled
