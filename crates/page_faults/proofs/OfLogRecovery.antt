-- What is named above of the proofs of log_recovery.
pub use Rattle.tag_faults.proofs.OfLogRecovery.OneOutcome
pub use Rattle.tag_faults.proofs.OfLogRecovery.Reading
