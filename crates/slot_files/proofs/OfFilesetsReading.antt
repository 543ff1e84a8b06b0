-- What is named above of the proofs of filesets_reading.
pub use Rattle.index_row_faults.proofs.OfFilesetsReading.Ways
