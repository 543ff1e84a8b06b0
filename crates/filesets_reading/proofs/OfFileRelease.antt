-- What is named above of the proofs of file_release.
pub use Rattle.domain_layout.proofs.OfFileRelease.Chains
pub use Rattle.domain_layout.proofs.OfFileRelease.Found
pub use Rattle.domain_layout.proofs.OfFileRelease.Freed
pub use Rattle.domain_layout.proofs.OfFileRelease.Given
pub use Rattle.domain_layout.proofs.OfFileRelease.Once
pub use Rattle.domain_layout.proofs.OfFileRelease.Outcome
