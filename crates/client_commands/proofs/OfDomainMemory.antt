-- What is named above of the proofs of domain_memory.
pub use Rattle.file_commands.proofs.OfDomainMemory.SettledKept
