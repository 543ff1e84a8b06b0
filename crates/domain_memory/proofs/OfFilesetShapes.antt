-- What is named above of the proofs of fileset_shapes.
pub use Rattle.standing_laws.proofs.OfFilesetShapes.Answered
pub use Rattle.standing_laws.proofs.OfFilesetShapes.Held
pub use Rattle.standing_laws.proofs.OfFilesetShapes.OriginalFiles
pub use Rattle.standing_laws.proofs.OfFilesetShapes.Roots
pub use Rattle.standing_laws.proofs.OfFilesetShapes.Said
pub use Rattle.standing_laws.proofs.OfFilesetShapes.SeenShapes
pub use Rattle.standing_laws.proofs.OfFilesetShapes.ShapeFacts
