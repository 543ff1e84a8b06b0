-- What is named above of the proofs of domain_layout.
pub use Rattle.page_ways.proofs.OfDomainLayout.CellsAlike
pub use Rattle.page_ways.proofs.OfDomainLayout.Files
pub use Rattle.page_ways.proofs.OfDomainLayout.FilledAlike
pub use Rattle.page_ways.proofs.OfDomainLayout.Named
pub use Rattle.page_ways.proofs.OfDomainLayout.NoTables
pub use Rattle.page_ways.proofs.OfDomainLayout.OneMeaning
pub use Rattle.page_ways.proofs.OfDomainLayout.OnePage
pub use Rattle.page_ways.proofs.OfDomainLayout.OneShape
pub use Rattle.page_ways.proofs.OfDomainLayout.Owned
pub use Rattle.page_ways.proofs.OfDomainLayout.OwnedOnce
pub use Rattle.page_ways.proofs.OfDomainLayout.Reached
pub use Rattle.page_ways.proofs.OfDomainLayout.SameFaults
pub use Rattle.page_ways.proofs.OfDomainLayout.Sides
pub use Rattle.page_ways.proofs.OfDomainLayout.TablesAgree
