-- What is named above of the proofs of domain_layout.
pub use Rattle.slot_files.proofs.OfDomainLayout.CellsAlike
pub use Rattle.slot_files.proofs.OfDomainLayout.Files
pub use Rattle.slot_files.proofs.OfDomainLayout.FilledAlike
pub use Rattle.slot_files.proofs.OfDomainLayout.Named
pub use Rattle.slot_files.proofs.OfDomainLayout.NoTables
pub use Rattle.slot_files.proofs.OfDomainLayout.OnePage
pub use Rattle.slot_files.proofs.OfDomainLayout.Owned
pub use Rattle.slot_files.proofs.OfDomainLayout.SameFaults
pub use Rattle.slot_files.proofs.OfDomainLayout.Sides
