-- What is named above of the proofs of filesets_reading.
pub use Rattle.page_faults.proofs.OfFilesetsReading.Originals
pub use Rattle.page_faults.proofs.OfFilesetsReading.Unbroken
pub use Rattle.page_faults.proofs.OfFilesetsReading.Ways
