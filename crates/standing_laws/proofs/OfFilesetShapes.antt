-- What is named above of the proofs of fileset_shapes.
pub use Rattle.domain_standing.proofs.OfFilesetShapes.Answered
pub use Rattle.domain_standing.proofs.OfFilesetShapes.Held
pub use Rattle.domain_standing.proofs.OfFilesetShapes.OriginalFiles
pub use Rattle.domain_standing.proofs.OfFilesetShapes.Roots
pub use Rattle.domain_standing.proofs.OfFilesetShapes.Said
pub use Rattle.domain_standing.proofs.OfFilesetShapes.SeenShapes
pub use Rattle.domain_standing.proofs.OfFilesetShapes.ShapeFacts
