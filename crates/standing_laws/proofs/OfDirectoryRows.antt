-- What is named above of the proofs of directory_rows.
pub use Rattle.domain_standing.proofs.OfDirectoryRows.AllLed
pub use Rattle.domain_standing.proofs.OfDirectoryRows.Parts
