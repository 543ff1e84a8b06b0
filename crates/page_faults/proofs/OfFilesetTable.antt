-- What is named above of the proofs of fileset_table.
pub use Rattle.tag_faults.proofs.OfFilesetTable.Unique
