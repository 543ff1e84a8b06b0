-- What is named above of the proofs of log_recovery.
pub use Rattle.attached_domain.proofs.OfLogRecovery.OneOutcome
pub use Rattle.attached_domain.proofs.OfLogRecovery.Settled
