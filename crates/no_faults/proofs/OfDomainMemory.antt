-- What is named above of the proofs of domain_memory.
pub use Rattle.domain_memory.proofs.Held
pub use Rattle.domain_memory.proofs.KeptCells
pub use Rattle.domain_memory.proofs.KeptSpace
pub use Rattle.domain_memory.proofs.KeptStands
pub use Rattle.domain_memory.proofs.NewLayout
pub use Rattle.domain_memory.proofs.NewMemory
pub use Rattle.domain_memory.proofs.SlotsChanged
