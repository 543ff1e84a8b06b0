-- What is named above of the proofs of domain_standing.
pub use Rattle.standing_laws.proofs.OfDomainStanding.FilePages
pub use Rattle.standing_laws.proofs.OfDomainStanding.Held
pub use Rattle.standing_laws.proofs.OfDomainStanding.Indexes
pub use Rattle.standing_laws.proofs.OfDomainStanding.Marked
pub use Rattle.standing_laws.proofs.OfDomainStanding.OneMeaning
pub use Rattle.standing_laws.proofs.OfDomainStanding.OneSet
pub use Rattle.standing_laws.proofs.OfDomainStanding.Showing
pub use Rattle.standing_laws.proofs.OfDomainStanding.SourcesStay
pub use Rattle.standing_laws.proofs.OfDomainStanding.Tables
