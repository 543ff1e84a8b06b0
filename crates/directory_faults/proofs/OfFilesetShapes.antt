-- What is named above of the proofs of fileset_shapes.
pub use Rattle.fileset_shapes.proofs.Answered
pub use Rattle.fileset_shapes.proofs.FaultsWithin
pub use Rattle.fileset_shapes.proofs.FilesetsWithin
pub use Rattle.fileset_shapes.proofs.Held
pub use Rattle.fileset_shapes.proofs.InShapes
pub use Rattle.fileset_shapes.proofs.MayStand
pub use Rattle.fileset_shapes.proofs.OriginalFiles
pub use Rattle.fileset_shapes.proofs.ReadHomes
pub use Rattle.fileset_shapes.proofs.SameShapes
