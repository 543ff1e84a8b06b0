-- What is named above of the proofs of domain_standing.
pub use Rattle.attached_domain.proofs.OfDomainStanding.OneMeaning
