-- What is named above of the proofs of volume_disk.
pub use Rattle.filesets_reading.proofs.OfVolumeDisk.Laws
