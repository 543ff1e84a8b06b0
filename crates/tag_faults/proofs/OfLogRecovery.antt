-- What is named above of the proofs of log_recovery.
pub use Rattle.cell_faults.proofs.OfLogRecovery.OneOutcome
pub use Rattle.cell_faults.proofs.OfLogRecovery.Reading
