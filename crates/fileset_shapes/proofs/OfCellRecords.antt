-- What is named above of the proofs of cell_records.
pub use Rattle.filesets_reading.proofs.OfCellRecords.Bytes
