-- What is named above of the proofs of disk_label.
pub use Rattle.page_ways.proofs.OfDiskLabel.Slots
