-- What is named above of the proofs of fileset_files.
pub use Rattle.tag_faults.proofs.OfFilesetFiles.Room
