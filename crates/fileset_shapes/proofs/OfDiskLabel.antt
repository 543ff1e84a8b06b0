-- What is named above of the proofs of disk_label.
pub use Rattle.filesets_reading.proofs.OfDiskLabel.Bodies
