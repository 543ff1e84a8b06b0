-- What is named above of the proofs of fileset_files.
pub use Rattle.domain_layout.proofs.OfFilesetFiles.Room
pub use Rattle.domain_layout.proofs.OfFilesetFiles.Tags
