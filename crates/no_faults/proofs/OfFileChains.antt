-- What is named above of the proofs of file_chains.
pub use Rattle.domain_memory.proofs.OfFileChains.Allocated
