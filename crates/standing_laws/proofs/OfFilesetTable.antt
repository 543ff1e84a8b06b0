-- What is named above of the proofs of fileset_table.
pub use Rattle.domain_standing.proofs.OfFilesetTable.Changing
pub use Rattle.domain_standing.proofs.OfFilesetTable.Joining
pub use Rattle.domain_standing.proofs.OfFilesetTable.Leaving
pub use Rattle.domain_standing.proofs.OfFilesetTable.Tried
pub use Rattle.domain_standing.proofs.OfFilesetTable.Unique
