-- What is named above of the proofs of directory_rows.
pub use Rattle.domain_layout.proofs.OfDirectoryRows.AllLed
pub use Rattle.domain_layout.proofs.OfDirectoryRows.Entered
pub use Rattle.domain_layout.proofs.OfDirectoryRows.Parts
