-- What is named above of the proofs of file_chains.
pub use Rattle.domain_layout.proofs.OfFileChains.Added
pub use Rattle.domain_layout.proofs.OfFileChains.Allocated
pub use Rattle.domain_layout.proofs.OfFileChains.ChainChanges
pub use Rattle.domain_layout.proofs.OfFileChains.FewPages
pub use Rattle.domain_layout.proofs.OfFileChains.MapRecords
pub use Rattle.domain_layout.proofs.OfFileChains.Replaced
pub use Rattle.domain_layout.proofs.OfFileChains.Spaces
pub use Rattle.domain_layout.proofs.OfFileChains.Walks
