-- What is named above of the proofs of name_space.
pub use Rattle.domain_memory.proofs.OfNameSpace.Likeness
pub use Rattle.domain_memory.proofs.OfNameSpace.Originals
pub use Rattle.domain_memory.proofs.OfNameSpace.Roots
pub use Rattle.domain_memory.proofs.OfNameSpace.Spots
pub use Rattle.domain_memory.proofs.OfNameSpace.Views
