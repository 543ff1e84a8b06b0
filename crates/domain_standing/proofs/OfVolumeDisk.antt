-- What is named above of the proofs of volume_disk.
pub use Rattle.fileset_shapes.proofs.OfVolumeDisk.Laws
