-- What is named above of the proofs of domain_state.
pub use Rattle.domain_state.proofs.Resting
pub use Rattle.domain_state.proofs.StaysWithin
pub use Rattle.domain_state.proofs.Tightness
