-- What is named above of the proofs of cell_faults.
pub use Rattle.cell_faults.proofs.Walks
