-- What is named above of the proofs of disk_label.
pub use Rattle.domain_memory.proofs.OfDiskLabel.Bodies
