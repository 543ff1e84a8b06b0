-- What is named above of the proofs of disk_label.
pub use Rattle.index_row_faults.proofs.OfDiskLabel.Slots
