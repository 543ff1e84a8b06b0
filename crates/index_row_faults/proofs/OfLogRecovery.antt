-- What is named above of the proofs of log_recovery.
pub use Rattle.page_faults.proofs.OfLogRecovery.OneOutcome
pub use Rattle.page_faults.proofs.OfLogRecovery.Reading
