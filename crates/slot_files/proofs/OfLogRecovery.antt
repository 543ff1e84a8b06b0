-- What is named above of the proofs of log_recovery.
pub use Rattle.index_row_faults.proofs.OfLogRecovery.OneOutcome
pub use Rattle.index_row_faults.proofs.OfLogRecovery.Reading
