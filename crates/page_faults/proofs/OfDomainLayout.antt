-- What is named above of the proofs of domain_layout.
pub use Rattle.tag_faults.proofs.OfDomainLayout.CellsAlike
pub use Rattle.tag_faults.proofs.OfDomainLayout.Files
pub use Rattle.tag_faults.proofs.OfDomainLayout.FilledAlike
pub use Rattle.tag_faults.proofs.OfDomainLayout.Named
pub use Rattle.tag_faults.proofs.OfDomainLayout.NoTables
pub use Rattle.tag_faults.proofs.OfDomainLayout.OneMeaning
pub use Rattle.tag_faults.proofs.OfDomainLayout.OnePage
pub use Rattle.tag_faults.proofs.OfDomainLayout.OneShape
pub use Rattle.tag_faults.proofs.OfDomainLayout.Owned
pub use Rattle.tag_faults.proofs.OfDomainLayout.OwnedOnce
pub use Rattle.tag_faults.proofs.OfDomainLayout.Reached
pub use Rattle.tag_faults.proofs.OfDomainLayout.SameFaults
pub use Rattle.tag_faults.proofs.OfDomainLayout.Sides
pub use Rattle.tag_faults.proofs.OfDomainLayout.TablesAgree
