-- What is named above of the proofs of fileset_files.
pub use Rattle.cell_faults.proofs.OfFilesetFiles.Room
pub use Rattle.cell_faults.proofs.OfFilesetFiles.Tags
