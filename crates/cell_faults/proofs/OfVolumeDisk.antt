-- What is named above of the proofs of volume_disk.
pub use Rattle.page_ways.proofs.OfVolumeDisk.Bytes
pub use Rattle.page_ways.proofs.OfVolumeDisk.Laws
