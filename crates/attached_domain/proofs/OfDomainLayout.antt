-- What is named above of the proofs of domain_layout.
pub use Rattle.no_faults.proofs.OfDomainLayout.NoTables
pub use Rattle.no_faults.proofs.OfDomainLayout.OnePage
pub use Rattle.no_faults.proofs.OfDomainLayout.SameFaults
pub use Rattle.no_faults.proofs.OfDomainLayout.There
