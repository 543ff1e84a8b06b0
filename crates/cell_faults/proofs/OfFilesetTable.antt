-- What is named above of the proofs of fileset_table.
pub use Rattle.page_ways.proofs.OfFilesetTable.Unique
