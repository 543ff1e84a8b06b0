-- What is named above of the proofs of directory_rows.
pub use Rattle.domain_memory.proofs.OfDirectoryRows.Parts
