-- What is named above of the proofs of directory_pages.
pub use Rattle.directory_pages.proofs.IndexParts
pub use Rattle.directory_pages.proofs.Orders
pub use Rattle.directory_pages.proofs.Places
pub use Rattle.directory_pages.proofs.Shown
