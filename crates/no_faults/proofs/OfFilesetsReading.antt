-- What is named above of the proofs of filesets_reading.
pub use Rattle.domain_memory.proofs.OfFilesetsReading.Ways
