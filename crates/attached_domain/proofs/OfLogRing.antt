-- What is named above of the proofs of log_ring.
pub use Rattle.no_faults.proofs.OfLogRing.HomePages
pub use Rattle.no_faults.proofs.OfLogRing.Staying
