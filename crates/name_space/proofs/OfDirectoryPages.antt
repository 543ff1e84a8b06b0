-- What is named above of the proofs of directory_pages.
pub use Rattle.directory_rows.proofs.OfDirectoryPages.IndexParts
pub use Rattle.directory_rows.proofs.OfDirectoryPages.Orders
pub use Rattle.directory_rows.proofs.OfDirectoryPages.Shown
