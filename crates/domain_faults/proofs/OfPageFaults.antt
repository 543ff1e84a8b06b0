-- What is named above of the proofs of page_faults.
pub use Rattle.slot_files.proofs.OfPageFaults.FilesFound
pub use Rattle.slot_files.proofs.OfPageFaults.OneMaps
