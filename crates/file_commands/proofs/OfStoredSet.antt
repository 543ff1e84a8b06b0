-- What is named above of the proofs of stored_set.
pub use Rattle.name_commands.proofs.OfStoredSet.Stable
