-- What is named above of the proofs of disk_label.
pub use Rattle.fileset_shapes.proofs.OfDiskLabel.Bodies
