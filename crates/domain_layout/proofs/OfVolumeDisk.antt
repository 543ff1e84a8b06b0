-- What is named above of the proofs of volume_disk.
pub use Rattle.log_recovery.proofs.OfVolumeDisk.Bytes
pub use Rattle.log_recovery.proofs.OfVolumeDisk.Laws
