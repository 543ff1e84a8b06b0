-- What is named above of the proofs of file_release.
pub use Rattle.file_release.proofs.Given
pub use Rattle.file_release.proofs.Once
