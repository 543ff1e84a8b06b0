-- What is named above of the proofs of log_ring.
pub use Rattle.slot_files.proofs.OfLogRing.Overlays
