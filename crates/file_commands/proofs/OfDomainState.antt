-- What is named above of the proofs of domain_state.
pub use Rattle.name_commands.proofs.OfDomainState.Resting
pub use Rattle.name_commands.proofs.OfDomainState.StaysWithin
pub use Rattle.name_commands.proofs.OfDomainState.Tightness
