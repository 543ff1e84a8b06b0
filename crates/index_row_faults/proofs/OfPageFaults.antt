-- What is named above of the proofs of page_faults.
pub use Rattle.page_faults.proofs.ByLayout
pub use Rattle.page_faults.proofs.FilesFound
pub use Rattle.page_faults.proofs.HomesFound
pub use Rattle.page_faults.proofs.OneMaps
