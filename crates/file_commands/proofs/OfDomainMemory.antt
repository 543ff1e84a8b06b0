-- What is named above of the proofs of domain_memory.
pub use Rattle.name_commands.proofs.OfDomainMemory.KeptStands
pub use Rattle.name_commands.proofs.OfDomainMemory.SettledKept
