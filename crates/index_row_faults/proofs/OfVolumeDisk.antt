-- What is named above of the proofs of volume_disk.
pub use Rattle.page_faults.proofs.OfVolumeDisk.Bytes
pub use Rattle.page_faults.proofs.OfVolumeDisk.Laws
