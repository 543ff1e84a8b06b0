-- What is named above of the proofs of directory_pages.
pub use Rattle.name_space.proofs.OfDirectoryPages.IndexParts
pub use Rattle.name_space.proofs.OfDirectoryPages.Orders
pub use Rattle.name_space.proofs.OfDirectoryPages.Shown
