-- What is named above of the proofs of directory_pages.
pub use Rattle.domain_layout.proofs.OfDirectoryPages.Shown
