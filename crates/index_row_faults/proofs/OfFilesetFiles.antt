-- What is named above of the proofs of fileset_files.
pub use Rattle.page_faults.proofs.OfFilesetFiles.Room
