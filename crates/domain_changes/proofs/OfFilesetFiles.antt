-- What is named above of the proofs of fileset_files.
pub use Rattle.domain_memory.proofs.OfFilesetFiles.Created
pub use Rattle.domain_memory.proofs.OfFilesetFiles.Live
pub use Rattle.domain_memory.proofs.OfFilesetFiles.OneChain
pub use Rattle.domain_memory.proofs.OfFilesetFiles.Tags
