-- What is named above of the proofs of volume_disk.
pub use Rattle.disk_label.proofs.OfVolumeDisk.Bytes
pub use Rattle.disk_label.proofs.OfVolumeDisk.Laws
pub use Rattle.disk_label.proofs.OfVolumeDisk.Settling
