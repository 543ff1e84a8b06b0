-- What is named above of the proofs of cell_records.
pub use Rattle.free_cells.proofs.OfCellRecords.Bytes
pub use Rattle.free_cells.proofs.OfCellRecords.WholeRecord
