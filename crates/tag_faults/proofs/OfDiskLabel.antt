-- What is named above of the proofs of disk_label.
pub use Rattle.cell_faults.proofs.OfDiskLabel.Slots
