-- What is named above of the proofs of cell_records.
pub use Rattle.domain_layout.proofs.OfCellRecords.Bytes
