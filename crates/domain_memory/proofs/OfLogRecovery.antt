-- What is named above of the proofs of log_recovery.
pub use Rattle.standing_laws.proofs.OfLogRecovery.GoodAnchors
pub use Rattle.standing_laws.proofs.OfLogRecovery.OneOutcome
pub use Rattle.standing_laws.proofs.OfLogRecovery.Settled
