-- What is named above of the proofs of domain_layout.
pub use Rattle.index_row_faults.proofs.OfDomainLayout.CellsAlike
pub use Rattle.index_row_faults.proofs.OfDomainLayout.Files
pub use Rattle.index_row_faults.proofs.OfDomainLayout.FilledAlike
pub use Rattle.index_row_faults.proofs.OfDomainLayout.Named
pub use Rattle.index_row_faults.proofs.OfDomainLayout.NoTables
pub use Rattle.index_row_faults.proofs.OfDomainLayout.OneMeaning
pub use Rattle.index_row_faults.proofs.OfDomainLayout.OnePage
pub use Rattle.index_row_faults.proofs.OfDomainLayout.Owned
pub use Rattle.index_row_faults.proofs.OfDomainLayout.OwnedOnce
pub use Rattle.index_row_faults.proofs.OfDomainLayout.Reached
pub use Rattle.index_row_faults.proofs.OfDomainLayout.SameFaults
pub use Rattle.index_row_faults.proofs.OfDomainLayout.Sides
pub use Rattle.index_row_faults.proofs.OfDomainLayout.TablesAgree
