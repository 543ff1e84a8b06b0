-- What is named above of the proofs of fileset_shapes.
pub use Rattle.fileset_shapes.proofs.Answered
pub use Rattle.fileset_shapes.proofs.Held
pub use Rattle.fileset_shapes.proofs.OriginalFiles
pub use Rattle.fileset_shapes.proofs.Roots
pub use Rattle.fileset_shapes.proofs.Said
pub use Rattle.fileset_shapes.proofs.SeenShapes
pub use Rattle.fileset_shapes.proofs.ShapeFacts
