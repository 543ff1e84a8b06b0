-- What is named above of the proofs of volume_disk.
pub use Rattle.domain_layout.proofs.OfVolumeDisk.Laws
