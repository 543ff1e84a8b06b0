-- What is named above of the proofs of disk_label.
pub use Rattle.no_faults.proofs.OfDiskLabel.Bodies
