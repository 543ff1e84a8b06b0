-- What is named above of the proofs of directory_rows.
pub use Rattle.name_space.proofs.OfDirectoryRows.AllLed
pub use Rattle.name_space.proofs.OfDirectoryRows.Entered
pub use Rattle.name_space.proofs.OfDirectoryRows.Parts
