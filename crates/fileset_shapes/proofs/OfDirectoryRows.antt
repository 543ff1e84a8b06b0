-- What is named above of the proofs of directory_rows.
pub use Rattle.filesets_reading.proofs.OfDirectoryRows.AllLed
pub use Rattle.filesets_reading.proofs.OfDirectoryRows.Entered
pub use Rattle.filesets_reading.proofs.OfDirectoryRows.Parts
