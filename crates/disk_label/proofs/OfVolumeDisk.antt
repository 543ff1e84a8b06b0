-- What is named above of the proofs of volume_disk.
pub use Rattle.volume_disk.proofs.Bytes
pub use Rattle.volume_disk.proofs.Laws
pub use Rattle.volume_disk.proofs.Settling
