-- What is named above of the proofs of cell_chains.
pub use Rattle.cell_chains.proofs.Each
pub use Rattle.cell_chains.proofs.ReadRuns
pub use Rattle.cell_chains.proofs.Whole
