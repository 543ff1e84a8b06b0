-- What is named above of the proofs of domain_layout.
pub use Rattle.standing_laws.proofs.OfDomainLayout.CellsAlike
pub use Rattle.standing_laws.proofs.OfDomainLayout.Named
pub use Rattle.standing_laws.proofs.OfDomainLayout.NewCells
pub use Rattle.standing_laws.proofs.OfDomainLayout.NewDomain
pub use Rattle.standing_laws.proofs.OfDomainLayout.NewPages
pub use Rattle.standing_laws.proofs.OfDomainLayout.NewTags
pub use Rattle.standing_laws.proofs.OfDomainLayout.NoTables
pub use Rattle.standing_laws.proofs.OfDomainLayout.OneMeaning
pub use Rattle.standing_laws.proofs.OfDomainLayout.OnePage
pub use Rattle.standing_laws.proofs.OfDomainLayout.OneShape
pub use Rattle.standing_laws.proofs.OfDomainLayout.OneSlot
pub use Rattle.standing_laws.proofs.OfDomainLayout.OneTable
pub use Rattle.standing_laws.proofs.OfDomainLayout.OwnedOnce
pub use Rattle.standing_laws.proofs.OfDomainLayout.Reached
pub use Rattle.standing_laws.proofs.OfDomainLayout.SameFaults
pub use Rattle.standing_laws.proofs.OfDomainLayout.There
