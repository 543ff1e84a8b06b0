-- What is named above of the proofs of directory_faults.
pub use Rattle.directory_faults.proofs.Inserted
pub use Rattle.directory_faults.proofs.SlotFaults
