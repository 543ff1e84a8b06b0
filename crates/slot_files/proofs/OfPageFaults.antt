-- What is named above of the proofs of page_faults.
pub use Rattle.index_row_faults.proofs.OfPageFaults.ByLayout
pub use Rattle.index_row_faults.proofs.OfPageFaults.FilesFound
pub use Rattle.index_row_faults.proofs.OfPageFaults.OneMaps
