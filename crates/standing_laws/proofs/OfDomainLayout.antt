-- What is named above of the proofs of domain_layout.
pub use Rattle.domain_standing.proofs.OfDomainLayout.CellsAlike
pub use Rattle.domain_standing.proofs.OfDomainLayout.FilledAlike
pub use Rattle.domain_standing.proofs.OfDomainLayout.Named
pub use Rattle.domain_standing.proofs.OfDomainLayout.NewCells
pub use Rattle.domain_standing.proofs.OfDomainLayout.NewDomain
pub use Rattle.domain_standing.proofs.OfDomainLayout.NewPages
pub use Rattle.domain_standing.proofs.OfDomainLayout.NewTags
pub use Rattle.domain_standing.proofs.OfDomainLayout.NoTables
pub use Rattle.domain_standing.proofs.OfDomainLayout.OneMeaning
pub use Rattle.domain_standing.proofs.OfDomainLayout.OnePage
pub use Rattle.domain_standing.proofs.OfDomainLayout.OneShape
pub use Rattle.domain_standing.proofs.OfDomainLayout.OneSlot
pub use Rattle.domain_standing.proofs.OfDomainLayout.OneTable
pub use Rattle.domain_standing.proofs.OfDomainLayout.OwnedOnce
pub use Rattle.domain_standing.proofs.OfDomainLayout.Reached
pub use Rattle.domain_standing.proofs.OfDomainLayout.SameFaults
pub use Rattle.domain_standing.proofs.OfDomainLayout.There
