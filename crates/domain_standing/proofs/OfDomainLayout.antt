-- What is named above of the proofs of domain_layout.
pub use Rattle.fileset_shapes.proofs.OfDomainLayout.CellsAlike
pub use Rattle.fileset_shapes.proofs.OfDomainLayout.FilledAlike
pub use Rattle.fileset_shapes.proofs.OfDomainLayout.Named
pub use Rattle.fileset_shapes.proofs.OfDomainLayout.NewCells
pub use Rattle.fileset_shapes.proofs.OfDomainLayout.NewDomain
pub use Rattle.fileset_shapes.proofs.OfDomainLayout.NewPages
pub use Rattle.fileset_shapes.proofs.OfDomainLayout.NewTags
pub use Rattle.fileset_shapes.proofs.OfDomainLayout.NoTables
pub use Rattle.fileset_shapes.proofs.OfDomainLayout.OneMeaning
pub use Rattle.fileset_shapes.proofs.OfDomainLayout.OnePage
pub use Rattle.fileset_shapes.proofs.OfDomainLayout.OneShape
pub use Rattle.fileset_shapes.proofs.OfDomainLayout.OneSlot
pub use Rattle.fileset_shapes.proofs.OfDomainLayout.OneTable
pub use Rattle.fileset_shapes.proofs.OfDomainLayout.OwnedOnce
pub use Rattle.fileset_shapes.proofs.OfDomainLayout.Reached
pub use Rattle.fileset_shapes.proofs.OfDomainLayout.SameFaults
pub use Rattle.fileset_shapes.proofs.OfDomainLayout.There
