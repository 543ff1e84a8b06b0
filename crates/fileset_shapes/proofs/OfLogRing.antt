-- What is named above of the proofs of log_ring.
pub use Rattle.filesets_reading.proofs.OfLogRing.HomePages
pub use Rattle.filesets_reading.proofs.OfLogRing.Staying
