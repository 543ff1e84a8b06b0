-- What is named above of the proofs of directory_pages.
pub use Rattle.tag_faults.proofs.OfDirectoryPages.IndexParts
pub use Rattle.tag_faults.proofs.OfDirectoryPages.Orders
