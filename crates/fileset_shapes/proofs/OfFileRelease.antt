-- What is named above of the proofs of file_release.
pub use Rattle.filesets_reading.proofs.OfFileRelease.Chains
pub use Rattle.filesets_reading.proofs.OfFileRelease.Found
pub use Rattle.filesets_reading.proofs.OfFileRelease.Freed
pub use Rattle.filesets_reading.proofs.OfFileRelease.Given
pub use Rattle.filesets_reading.proofs.OfFileRelease.Once
pub use Rattle.filesets_reading.proofs.OfFileRelease.Outcome
