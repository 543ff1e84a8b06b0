-- What is named above of the proofs of command_text.
pub use Rattle.command_text.proofs.CommandForms
pub use Rattle.command_text.proofs.CommandLemmas
pub use Rattle.command_text.proofs.FindLemmas
