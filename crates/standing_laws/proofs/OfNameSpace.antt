-- What is named above of the proofs of name_space.
pub use Rattle.domain_standing.proofs.OfNameSpace.Counted
pub use Rattle.domain_standing.proofs.OfNameSpace.Leads
pub use Rattle.domain_standing.proofs.OfNameSpace.Likeness
pub use Rattle.domain_standing.proofs.OfNameSpace.MovedPaths
pub use Rattle.domain_standing.proofs.OfNameSpace.OneWay
pub use Rattle.domain_standing.proofs.OfNameSpace.Originals
pub use Rattle.domain_standing.proofs.OfNameSpace.Roots
pub use Rattle.domain_standing.proofs.OfNameSpace.Spots
pub use Rattle.domain_standing.proofs.OfNameSpace.Views
