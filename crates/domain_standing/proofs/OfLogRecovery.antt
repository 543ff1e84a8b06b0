-- What is named above of the proofs of log_recovery.
pub use Rattle.fileset_shapes.proofs.OfLogRecovery.GoodAnchors
pub use Rattle.fileset_shapes.proofs.OfLogRecovery.OneOutcome
pub use Rattle.fileset_shapes.proofs.OfLogRecovery.Settled
