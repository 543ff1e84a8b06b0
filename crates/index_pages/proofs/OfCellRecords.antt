-- What is named above of the proofs of cell_records.
pub use Rattle.file_release.proofs.OfCellRecords.Bytes
