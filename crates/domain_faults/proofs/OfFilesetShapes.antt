-- What is named above of the proofs of fileset_shapes.
pub use Rattle.slot_files.proofs.OfFilesetShapes.Held
pub use Rattle.slot_files.proofs.OfFilesetShapes.InShapes
pub use Rattle.slot_files.proofs.OfFilesetShapes.MayStand
pub use Rattle.slot_files.proofs.OfFilesetShapes.OriginalFiles
pub use Rattle.slot_files.proofs.OfFilesetShapes.SameShapes
