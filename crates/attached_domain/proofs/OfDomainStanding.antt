-- What is named above of the proofs of domain_standing.
pub use Rattle.no_faults.proofs.OfDomainStanding.OneMeaning
