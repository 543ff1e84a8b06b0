-- What is named above of the proofs of domain_memory.
pub use Rattle.domain_memory.proofs.SlotsChanged
