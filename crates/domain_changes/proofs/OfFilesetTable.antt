-- What is named above of the proofs of fileset_table.
pub use Rattle.domain_memory.proofs.OfFilesetTable.Leaving
