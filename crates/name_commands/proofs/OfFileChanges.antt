-- What is named above of the proofs of file_changes.
pub use Rattle.file_changes.proofs.Changed
pub use Rattle.file_changes.proofs.HowMany
pub use Rattle.file_changes.proofs.Known
pub use Rattle.file_changes.proofs.Steps
pub use Rattle.file_changes.proofs.Twice
