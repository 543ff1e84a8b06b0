-- What is named above of the proofs of file_chains.
pub use Rattle.domain_standing.proofs.OfFileChains.Added
pub use Rattle.domain_standing.proofs.OfFileChains.Allocated
pub use Rattle.domain_standing.proofs.OfFileChains.ChainChanges
pub use Rattle.domain_standing.proofs.OfFileChains.FewPages
pub use Rattle.domain_standing.proofs.OfFileChains.MapRecords
pub use Rattle.domain_standing.proofs.OfFileChains.Replaced
pub use Rattle.domain_standing.proofs.OfFileChains.Spaces
