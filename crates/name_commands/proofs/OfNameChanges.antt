-- What is named above of the proofs of name_changes.
pub use Rattle.name_changes.proofs.Same
