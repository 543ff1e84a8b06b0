-- What is named above of the proofs of log_ring.
pub use Rattle.cell_faults.proofs.OfLogRing.HeaderPages
pub use Rattle.cell_faults.proofs.OfLogRing.OnImages
pub use Rattle.cell_faults.proofs.OfLogRing.Overlays
