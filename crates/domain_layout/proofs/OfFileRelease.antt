-- What is named above of the proofs of file_release.
pub use Rattle.file_release.proofs.Chains
pub use Rattle.file_release.proofs.Found
pub use Rattle.file_release.proofs.Freed
pub use Rattle.file_release.proofs.Given
pub use Rattle.file_release.proofs.Once
pub use Rattle.file_release.proofs.Outcome
