-- What is named above of the proofs of log_ring.
pub use Rattle.domain_layout.proofs.OfLogRing.HeaderPages
pub use Rattle.domain_layout.proofs.OfLogRing.OnImages
pub use Rattle.domain_layout.proofs.OfLogRing.Overlays
