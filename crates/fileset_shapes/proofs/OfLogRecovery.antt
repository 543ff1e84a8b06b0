-- What is named above of the proofs of log_recovery.
pub use Rattle.filesets_reading.proofs.OfLogRecovery.GoodAnchors
pub use Rattle.filesets_reading.proofs.OfLogRecovery.OneOutcome
pub use Rattle.filesets_reading.proofs.OfLogRecovery.Settled
