-- What is named above of the proofs of directory_rows.
pub use Rattle.directory_rows.proofs.AllLed
pub use Rattle.directory_rows.proofs.Entered
pub use Rattle.directory_rows.proofs.Parts
