-- What is named above of the proofs of file_chains.
pub use Rattle.standing_laws.proofs.OfFileChains.Added
pub use Rattle.standing_laws.proofs.OfFileChains.Allocated
pub use Rattle.standing_laws.proofs.OfFileChains.ChainChanges
pub use Rattle.standing_laws.proofs.OfFileChains.FewPages
pub use Rattle.standing_laws.proofs.OfFileChains.MapRecords
