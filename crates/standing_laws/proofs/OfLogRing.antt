-- What is named above of the proofs of log_ring.
pub use Rattle.domain_standing.proofs.OfLogRing.HomePages
pub use Rattle.domain_standing.proofs.OfLogRing.Staying
