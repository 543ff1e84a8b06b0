-- What is named above of the proofs of log_ring.
pub use Rattle.domain_layout.proofs.OfLogRing.HomePages
pub use Rattle.domain_layout.proofs.OfLogRing.Staying
