-- What is named above of the proofs of directory_faults.
pub use Rattle.index_row_faults.proofs.OfDirectoryFaults.SlotFaults
