-- What is named above of the proofs of set_standing.
pub use Rattle.set_standing.proofs.MovedStood
pub use Rattle.set_standing.proofs.Nodes
pub use Rattle.set_standing.proofs.Stood
