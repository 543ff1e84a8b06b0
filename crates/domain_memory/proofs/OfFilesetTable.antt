-- What is named above of the proofs of fileset_table.
pub use Rattle.standing_laws.proofs.OfFilesetTable.Changing
pub use Rattle.standing_laws.proofs.OfFilesetTable.Joining
pub use Rattle.standing_laws.proofs.OfFilesetTable.Leaving
pub use Rattle.standing_laws.proofs.OfFilesetTable.Tried
pub use Rattle.standing_laws.proofs.OfFilesetTable.Unique
