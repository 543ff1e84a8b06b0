-- What is named above of the proofs of cell_records.
pub use Rattle.file_chains.proofs.OfCellRecords.Bytes
pub use Rattle.file_chains.proofs.OfCellRecords.WholeRecord
