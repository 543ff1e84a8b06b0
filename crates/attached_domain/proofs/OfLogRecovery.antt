-- What is named above of the proofs of log_recovery.
pub use Rattle.no_faults.proofs.OfLogRecovery.GoodAnchors
pub use Rattle.no_faults.proofs.OfLogRecovery.OneOutcome
pub use Rattle.no_faults.proofs.OfLogRecovery.Settled
