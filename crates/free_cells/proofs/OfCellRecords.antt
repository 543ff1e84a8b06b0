-- What is named above of the proofs of cell_records.
pub use Rattle.metadata_cells.proofs.OfCellRecords.Bytes
pub use Rattle.metadata_cells.proofs.OfCellRecords.EachKind
pub use Rattle.metadata_cells.proofs.OfCellRecords.WholeRecord
