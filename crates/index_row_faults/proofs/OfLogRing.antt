-- What is named above of the proofs of log_ring.
pub use Rattle.page_faults.proofs.OfLogRing.HeaderPages
pub use Rattle.page_faults.proofs.OfLogRing.OnImages
pub use Rattle.page_faults.proofs.OfLogRing.Overlays
