-- What is named above of the proofs of domain_state.
pub use Rattle.file_commands.proofs.OfDomainState.StaysWithin
