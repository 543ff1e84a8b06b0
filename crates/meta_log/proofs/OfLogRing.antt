-- What is named above of the proofs of log_ring.
pub use Rattle.log_ring.proofs.HomePages
pub use Rattle.log_ring.proofs.Overlays
pub use Rattle.log_ring.proofs.RingPlaces
pub use Rattle.log_ring.proofs.Staying
