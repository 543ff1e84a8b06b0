-- What is named above of the proofs of file_chains.
pub use Rattle.cell_faults.proofs.OfFileChains.MapRecords
