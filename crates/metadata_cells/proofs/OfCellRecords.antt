-- What is named above of the proofs of cell_records.
pub use Rattle.cell_records.proofs.Bytes
pub use Rattle.cell_records.proofs.EachKind
pub use Rattle.cell_records.proofs.Scan
pub use Rattle.cell_records.proofs.WholeRecord
