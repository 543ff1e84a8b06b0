-- What is named above of the proofs of file_chains.
pub use Rattle.release_list.proofs.OfFileChains.Added
pub use Rattle.release_list.proofs.OfFileChains.ChainChanges
pub use Rattle.release_list.proofs.OfFileChains.Spaces
pub use Rattle.release_list.proofs.OfFileChains.Still
