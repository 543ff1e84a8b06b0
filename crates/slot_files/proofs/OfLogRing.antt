-- What is named above of the proofs of log_ring.
pub use Rattle.index_row_faults.proofs.OfLogRing.HeaderPages
pub use Rattle.index_row_faults.proofs.OfLogRing.OnImages
pub use Rattle.index_row_faults.proofs.OfLogRing.Overlays
