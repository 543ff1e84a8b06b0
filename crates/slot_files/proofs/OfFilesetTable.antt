-- What is named above of the proofs of fileset_table.
pub use Rattle.index_row_faults.proofs.OfFilesetTable.Unique
