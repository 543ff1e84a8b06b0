-- What is named above of the proofs of directory_pages.
pub use Rattle.filesets_reading.proofs.OfDirectoryPages.Shown
