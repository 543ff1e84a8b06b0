-- What is named above of the proofs of volume_disk.
pub use Rattle.log_ring.proofs.OfVolumeDisk.Laws
