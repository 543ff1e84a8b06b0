-- What is named above of the proofs of file_release.
pub use Rattle.domain_standing.proofs.OfFileRelease.Chains
pub use Rattle.domain_standing.proofs.OfFileRelease.Found
pub use Rattle.domain_standing.proofs.OfFileRelease.Freed
pub use Rattle.domain_standing.proofs.OfFileRelease.Once
