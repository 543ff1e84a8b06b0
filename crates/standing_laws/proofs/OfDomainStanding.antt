-- What is named above of the proofs of domain_standing.
pub use Rattle.domain_standing.proofs.FilePages
pub use Rattle.domain_standing.proofs.Held
pub use Rattle.domain_standing.proofs.Indexes
pub use Rattle.domain_standing.proofs.Marked
pub use Rattle.domain_standing.proofs.NewDomain
pub use Rattle.domain_standing.proofs.OneMeaning
pub use Rattle.domain_standing.proofs.OneSet
pub use Rattle.domain_standing.proofs.Showing
pub use Rattle.domain_standing.proofs.SourcesStay
pub use Rattle.domain_standing.proofs.Tables
