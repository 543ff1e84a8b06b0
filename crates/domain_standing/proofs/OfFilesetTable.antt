-- What is named above of the proofs of fileset_table.
pub use Rattle.fileset_shapes.proofs.OfFilesetTable.Changing
pub use Rattle.fileset_shapes.proofs.OfFilesetTable.Joining
pub use Rattle.fileset_shapes.proofs.OfFilesetTable.Leaving
pub use Rattle.fileset_shapes.proofs.OfFilesetTable.Tried
pub use Rattle.fileset_shapes.proofs.OfFilesetTable.Unique
