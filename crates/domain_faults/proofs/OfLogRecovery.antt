-- What is named above of the proofs of log_recovery.
pub use Rattle.slot_files.proofs.OfLogRecovery.OneOutcome
