-- What is named above of the proofs of name_space.
pub use Rattle.domain_memory.proofs.OfNameSpace.Originals
