-- What is named above of the proofs of log_ring.
pub use Rattle.fileset_shapes.proofs.OfLogRing.HomePages
pub use Rattle.fileset_shapes.proofs.OfLogRing.Staying
