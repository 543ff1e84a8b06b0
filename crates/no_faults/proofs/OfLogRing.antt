-- What is named above of the proofs of log_ring.
pub use Rattle.domain_memory.proofs.OfLogRing.HomePages
pub use Rattle.domain_memory.proofs.OfLogRing.Staying
