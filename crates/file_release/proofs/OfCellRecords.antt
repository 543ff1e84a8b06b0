-- What is named above of the proofs of cell_records.
pub use Rattle.fileset_files.proofs.OfCellRecords.Bytes
pub use Rattle.fileset_files.proofs.OfCellRecords.WholeRecord
