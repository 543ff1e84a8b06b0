-- What is named above of the proofs of domain_memory.
pub use Rattle.domain_changes.proofs.OfDomainMemory.KeptStands
pub use Rattle.domain_changes.proofs.OfDomainMemory.SettledKept
