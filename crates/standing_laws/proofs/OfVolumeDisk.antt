-- What is named above of the proofs of volume_disk.
pub use Rattle.domain_standing.proofs.OfVolumeDisk.Laws
