-- What is named above of the proofs of log_recovery.
pub use Rattle.domain_memory.proofs.OfLogRecovery.GoodAnchors
pub use Rattle.domain_memory.proofs.OfLogRecovery.OneOutcome
pub use Rattle.domain_memory.proofs.OfLogRecovery.Settled
