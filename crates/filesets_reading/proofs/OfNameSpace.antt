-- What is named above of the proofs of name_space.
pub use Rattle.domain_layout.proofs.OfNameSpace.Counted
pub use Rattle.domain_layout.proofs.OfNameSpace.CreatedNames
pub use Rattle.domain_layout.proofs.OfNameSpace.Leads
pub use Rattle.domain_layout.proofs.OfNameSpace.Likeness
pub use Rattle.domain_layout.proofs.OfNameSpace.Made
pub use Rattle.domain_layout.proofs.OfNameSpace.MovedPaths
pub use Rattle.domain_layout.proofs.OfNameSpace.OneWay
pub use Rattle.domain_layout.proofs.OfNameSpace.Originals
pub use Rattle.domain_layout.proofs.OfNameSpace.Roots
pub use Rattle.domain_layout.proofs.OfNameSpace.Spots
pub use Rattle.domain_layout.proofs.OfNameSpace.Views
