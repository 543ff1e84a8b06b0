-- What is named above of the proofs of volume_disk.
pub use Rattle.slot_files.proofs.OfVolumeDisk.Bytes
pub use Rattle.slot_files.proofs.OfVolumeDisk.Laws
