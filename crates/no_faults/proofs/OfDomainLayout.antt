-- What is named above of the proofs of domain_layout.
pub use Rattle.domain_memory.proofs.OfDomainLayout.CellsAlike
pub use Rattle.domain_memory.proofs.OfDomainLayout.Named
pub use Rattle.domain_memory.proofs.OfDomainLayout.NewCells
pub use Rattle.domain_memory.proofs.OfDomainLayout.NewDomain
pub use Rattle.domain_memory.proofs.OfDomainLayout.NewPages
pub use Rattle.domain_memory.proofs.OfDomainLayout.NewTags
pub use Rattle.domain_memory.proofs.OfDomainLayout.NoTables
pub use Rattle.domain_memory.proofs.OfDomainLayout.OneMeaning
pub use Rattle.domain_memory.proofs.OfDomainLayout.OnePage
pub use Rattle.domain_memory.proofs.OfDomainLayout.OneShape
pub use Rattle.domain_memory.proofs.OfDomainLayout.OneSlot
pub use Rattle.domain_memory.proofs.OfDomainLayout.OneTable
pub use Rattle.domain_memory.proofs.OfDomainLayout.OwnedOnce
pub use Rattle.domain_memory.proofs.OfDomainLayout.SameFaults
pub use Rattle.domain_memory.proofs.OfDomainLayout.There
