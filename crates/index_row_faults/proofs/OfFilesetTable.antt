-- What is named above of the proofs of fileset_table.
pub use Rattle.page_faults.proofs.OfFilesetTable.Unique
