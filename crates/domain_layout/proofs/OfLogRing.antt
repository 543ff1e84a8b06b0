-- What is named above of the proofs of log_ring.
pub use Rattle.log_recovery.proofs.OfLogRing.HeaderPages
pub use Rattle.log_recovery.proofs.OfLogRing.HomePages
pub use Rattle.log_recovery.proofs.OfLogRing.OnImages
pub use Rattle.log_recovery.proofs.OfLogRing.Overlays
pub use Rattle.log_recovery.proofs.OfLogRing.Staying
