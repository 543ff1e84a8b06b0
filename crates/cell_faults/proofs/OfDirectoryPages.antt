-- What is named above of the proofs of directory_pages.
pub use Rattle.page_ways.proofs.OfDirectoryPages.IndexParts
pub use Rattle.page_ways.proofs.OfDirectoryPages.Orders
