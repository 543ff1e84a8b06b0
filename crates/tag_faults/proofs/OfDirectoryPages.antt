-- What is named above of the proofs of directory_pages.
pub use Rattle.cell_faults.proofs.OfDirectoryPages.IndexParts
pub use Rattle.cell_faults.proofs.OfDirectoryPages.Orders
