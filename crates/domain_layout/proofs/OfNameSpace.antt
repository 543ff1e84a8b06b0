-- What is named above of the proofs of name_space.
pub use Rattle.name_space.proofs.Counted
pub use Rattle.name_space.proofs.CreatedNames
pub use Rattle.name_space.proofs.Leads
pub use Rattle.name_space.proofs.Likeness
pub use Rattle.name_space.proofs.Made
pub use Rattle.name_space.proofs.MovedPaths
pub use Rattle.name_space.proofs.OneWay
pub use Rattle.name_space.proofs.Originals
pub use Rattle.name_space.proofs.Roots
pub use Rattle.name_space.proofs.Spots
pub use Rattle.name_space.proofs.Views
