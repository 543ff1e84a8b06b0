-- What is named above of the proofs of fileset_shapes.
pub use Rattle.domain_memory.proofs.OfFilesetShapes.Answered
pub use Rattle.domain_memory.proofs.OfFilesetShapes.Held
pub use Rattle.domain_memory.proofs.OfFilesetShapes.Said
pub use Rattle.domain_memory.proofs.OfFilesetShapes.SeenShapes
