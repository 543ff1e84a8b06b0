-- What is named above of the proofs of domain_standing.
pub use Rattle.domain_memory.proofs.OfDomainStanding.Marked
pub use Rattle.domain_memory.proofs.OfDomainStanding.OneMeaning
