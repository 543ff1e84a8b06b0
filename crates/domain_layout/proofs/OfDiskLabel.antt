-- What is named above of the proofs of disk_label.
pub use Rattle.log_recovery.proofs.OfDiskLabel.Bodies
pub use Rattle.log_recovery.proofs.OfDiskLabel.Elsewhere
pub use Rattle.log_recovery.proofs.OfDiskLabel.Gates
pub use Rattle.log_recovery.proofs.OfDiskLabel.Slots
