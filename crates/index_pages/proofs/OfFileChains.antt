-- What is named above of the proofs of file_chains.
pub use Rattle.file_release.proofs.OfFileChains.Added
pub use Rattle.file_release.proofs.OfFileChains.ChainChanges
pub use Rattle.file_release.proofs.OfFileChains.MapRecords
pub use Rattle.file_release.proofs.OfFileChains.Spaces
