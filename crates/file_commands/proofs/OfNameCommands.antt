-- What is named above of the proofs of name_commands.
pub use Rattle.name_commands.proofs.Counted
pub use Rattle.name_commands.proofs.Means
pub use Rattle.name_commands.proofs.PlacedThere
pub use Rattle.name_commands.proofs.Removal
