-- What is named above of the proofs of meta_log.
pub use Rattle.meta_log.proofs.Bodies
pub use Rattle.meta_log.proofs.Pending
