-- What is named above of the proofs of fileset_files.
pub use Rattle.page_ways.proofs.OfFilesetFiles.Room
pub use Rattle.page_ways.proofs.OfFilesetFiles.Tags
