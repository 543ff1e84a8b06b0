-- What is named above of the proofs of fileset_shapes.
pub use Rattle.directory_faults.proofs.OfFilesetShapes.Answered
pub use Rattle.directory_faults.proofs.OfFilesetShapes.FaultsWithin
pub use Rattle.directory_faults.proofs.OfFilesetShapes.FilesetsWithin
pub use Rattle.directory_faults.proofs.OfFilesetShapes.Held
pub use Rattle.directory_faults.proofs.OfFilesetShapes.InShapes
pub use Rattle.directory_faults.proofs.OfFilesetShapes.MayStand
pub use Rattle.directory_faults.proofs.OfFilesetShapes.OriginalFiles
pub use Rattle.directory_faults.proofs.OfFilesetShapes.ReadHomes
pub use Rattle.directory_faults.proofs.OfFilesetShapes.SameShapes
