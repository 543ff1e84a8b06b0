-- What is named above of the proofs of disk_label.
pub use Rattle.standing_laws.proofs.OfDiskLabel.Bodies
