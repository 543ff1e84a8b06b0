-- What is named above of the proofs of domain_layout.
pub use Rattle.domain_memory.proofs.OfDomainLayout.Reached
