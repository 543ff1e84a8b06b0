-- What is named above of the proofs of domain_making.
pub use Rattle.domain_memory.proofs.OfDomainMaking.Empty
