-- What is named above of the proofs of file_chains.
pub use Rattle.domain_memory.proofs.OfFileChains.Added
pub use Rattle.domain_memory.proofs.OfFileChains.ChainChanges
pub use Rattle.domain_memory.proofs.OfFileChains.FewPages
pub use Rattle.domain_memory.proofs.OfFileChains.MapRecords
