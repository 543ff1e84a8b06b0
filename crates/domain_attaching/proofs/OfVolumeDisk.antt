-- What is named above of the proofs of volume_disk.
pub use Rattle.attached_domain.proofs.OfVolumeDisk.Laws
