-- What is named above of the proofs of disk_label.
pub use Rattle.domain_layout.proofs.OfDiskLabel.Slots
