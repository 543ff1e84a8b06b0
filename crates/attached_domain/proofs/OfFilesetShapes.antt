-- What is named above of the proofs of fileset_shapes.
pub use Rattle.no_faults.proofs.OfFilesetShapes.Held
