-- What is named above of the proofs of fileset_table.
pub use Rattle.filesets_reading.proofs.OfFilesetTable.Changing
pub use Rattle.filesets_reading.proofs.OfFilesetTable.Joining
pub use Rattle.filesets_reading.proofs.OfFilesetTable.Leaving
pub use Rattle.filesets_reading.proofs.OfFilesetTable.Tried
pub use Rattle.filesets_reading.proofs.OfFilesetTable.Unique
