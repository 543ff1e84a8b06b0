-- What is named above of the proofs of name_space.
pub use Rattle.standing_laws.proofs.OfNameSpace.Counted
pub use Rattle.standing_laws.proofs.OfNameSpace.Leads
pub use Rattle.standing_laws.proofs.OfNameSpace.Likeness
pub use Rattle.standing_laws.proofs.OfNameSpace.OneWay
pub use Rattle.standing_laws.proofs.OfNameSpace.Originals
pub use Rattle.standing_laws.proofs.OfNameSpace.Roots
pub use Rattle.standing_laws.proofs.OfNameSpace.Spots
pub use Rattle.standing_laws.proofs.OfNameSpace.Views
