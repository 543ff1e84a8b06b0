-- What is named above of the proofs of file_release.
pub use Rattle.standing_laws.proofs.OfFileRelease.Freed
pub use Rattle.standing_laws.proofs.OfFileRelease.Once
