-- What is named above of the proofs of cell_chains.
pub use Rattle.cell_faults.proofs.OfCellChains.Each
pub use Rattle.cell_faults.proofs.OfCellChains.ReadRuns
