-- What is named above of the proofs of directory_rows.
pub use Rattle.fileset_shapes.proofs.OfDirectoryRows.AllLed
pub use Rattle.fileset_shapes.proofs.OfDirectoryRows.Parts
