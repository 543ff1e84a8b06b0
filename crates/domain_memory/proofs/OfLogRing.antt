-- What is named above of the proofs of log_ring.
pub use Rattle.standing_laws.proofs.OfLogRing.HomePages
pub use Rattle.standing_laws.proofs.OfLogRing.Staying
