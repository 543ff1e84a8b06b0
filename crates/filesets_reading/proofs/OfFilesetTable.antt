-- What is named above of the proofs of fileset_table.
pub use Rattle.domain_layout.proofs.OfFilesetTable.Changing
pub use Rattle.domain_layout.proofs.OfFilesetTable.Joining
pub use Rattle.domain_layout.proofs.OfFilesetTable.Leaving
pub use Rattle.domain_layout.proofs.OfFilesetTable.Tried
pub use Rattle.domain_layout.proofs.OfFilesetTable.Unique
