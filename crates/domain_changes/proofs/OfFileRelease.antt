-- What is named above of the proofs of file_release.
pub use Rattle.domain_memory.proofs.OfFileRelease.Freed
pub use Rattle.domain_memory.proofs.OfFileRelease.Once
