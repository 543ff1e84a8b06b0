-- What is named above of the proofs of domain_layout.
pub use Rattle.filesets_reading.proofs.OfDomainLayout.CellsAlike
pub use Rattle.filesets_reading.proofs.OfDomainLayout.FilledAlike
pub use Rattle.filesets_reading.proofs.OfDomainLayout.Named
pub use Rattle.filesets_reading.proofs.OfDomainLayout.NewCells
pub use Rattle.filesets_reading.proofs.OfDomainLayout.NewDomain
pub use Rattle.filesets_reading.proofs.OfDomainLayout.NewPages
pub use Rattle.filesets_reading.proofs.OfDomainLayout.NewTags
pub use Rattle.filesets_reading.proofs.OfDomainLayout.NoTables
pub use Rattle.filesets_reading.proofs.OfDomainLayout.OneMeaning
pub use Rattle.filesets_reading.proofs.OfDomainLayout.OnePage
pub use Rattle.filesets_reading.proofs.OfDomainLayout.OneShape
pub use Rattle.filesets_reading.proofs.OfDomainLayout.OneSlot
pub use Rattle.filesets_reading.proofs.OfDomainLayout.OneTable
pub use Rattle.filesets_reading.proofs.OfDomainLayout.OwnedOnce
pub use Rattle.filesets_reading.proofs.OfDomainLayout.Reached
pub use Rattle.filesets_reading.proofs.OfDomainLayout.SameFaults
pub use Rattle.filesets_reading.proofs.OfDomainLayout.There
