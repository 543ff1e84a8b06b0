-- What is named above of the proofs of log_ring.
pub use Rattle.page_ways.proofs.OfLogRing.HeaderPages
pub use Rattle.page_ways.proofs.OfLogRing.OnImages
pub use Rattle.page_ways.proofs.OfLogRing.Overlays
