-- What is named above of the proofs of domain_memory.
pub use Rattle.domain_memory.proofs.Held
pub use Rattle.domain_memory.proofs.KeptStands
pub use Rattle.domain_memory.proofs.Listed
pub use Rattle.domain_memory.proofs.SettledKept
pub use Rattle.domain_memory.proofs.TakingBack
