-- What is named above of the proofs of filesets_reading.
pub use Rattle.filesets_reading.proofs.Originals
pub use Rattle.filesets_reading.proofs.Unbroken
pub use Rattle.filesets_reading.proofs.Ways
