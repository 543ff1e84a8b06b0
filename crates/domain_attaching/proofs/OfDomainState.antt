-- What is named above of the proofs of domain_state.
pub use Rattle.domain_state.proofs.AttachedStart
pub use Rattle.domain_state.proofs.NewStart
