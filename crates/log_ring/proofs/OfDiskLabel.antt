-- What is named above of the proofs of disk_label.
pub use Rattle.disk_label.proofs.Bodies
pub use Rattle.disk_label.proofs.Elsewhere
pub use Rattle.disk_label.proofs.Gates
pub use Rattle.disk_label.proofs.Slots
