-- What is named above of the proofs of file_release.
pub use Rattle.fileset_shapes.proofs.OfFileRelease.Chains
pub use Rattle.fileset_shapes.proofs.OfFileRelease.Found
pub use Rattle.fileset_shapes.proofs.OfFileRelease.Freed
pub use Rattle.fileset_shapes.proofs.OfFileRelease.Given
pub use Rattle.fileset_shapes.proofs.OfFileRelease.Once
pub use Rattle.fileset_shapes.proofs.OfFileRelease.Outcome
