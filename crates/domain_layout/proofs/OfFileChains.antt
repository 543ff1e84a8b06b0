-- What is named above of the proofs of file_chains.
pub use Rattle.file_release.proofs.OfFileChains.Added
pub use Rattle.file_release.proofs.OfFileChains.Allocated
pub use Rattle.file_release.proofs.OfFileChains.ChainChanges
pub use Rattle.file_release.proofs.OfFileChains.FewPages
pub use Rattle.file_release.proofs.OfFileChains.MapRecords
pub use Rattle.file_release.proofs.OfFileChains.Replaced
pub use Rattle.file_release.proofs.OfFileChains.Spaces
pub use Rattle.file_release.proofs.OfFileChains.Walks
