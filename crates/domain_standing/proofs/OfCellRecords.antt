-- What is named above of the proofs of cell_records.
pub use Rattle.fileset_shapes.proofs.OfCellRecords.Bytes
