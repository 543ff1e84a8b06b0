-- What is named above of the proofs of directory_rows.
pub use Rattle.standing_laws.proofs.OfDirectoryRows.AllLed
pub use Rattle.standing_laws.proofs.OfDirectoryRows.Parts
