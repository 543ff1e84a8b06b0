-- What is named above of the proofs of log_recovery.
pub use Rattle.page_ways.proofs.OfLogRecovery.OneOutcome
pub use Rattle.page_ways.proofs.OfLogRecovery.Reading
