-- What is named above of the proofs of fileset_table.
pub use Rattle.domain_layout.proofs.OfFilesetTable.NewTable
pub use Rattle.domain_layout.proofs.OfFilesetTable.Unique
