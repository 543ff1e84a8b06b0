-- What is named above of the proofs of volume_disk.
pub use Rattle.no_faults.proofs.OfVolumeDisk.Laws
