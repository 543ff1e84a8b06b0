-- What is named above of the proofs of disk_label.
pub use Rattle.tag_faults.proofs.OfDiskLabel.Slots
