-- What is named above of the proofs of meta_log.
pub use Rattle.logged_rack.proofs.OfMetaLog.Bodies
pub use Rattle.logged_rack.proofs.OfMetaLog.Pending
