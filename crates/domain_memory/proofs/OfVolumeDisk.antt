-- What is named above of the proofs of volume_disk.
pub use Rattle.standing_laws.proofs.OfVolumeDisk.Laws
