-- What is named above of the proofs of log_recovery.
pub use Rattle.domain_layout.proofs.OfLogRecovery.GoodAnchors
pub use Rattle.domain_layout.proofs.OfLogRecovery.OneOutcome
pub use Rattle.domain_layout.proofs.OfLogRecovery.Settled
