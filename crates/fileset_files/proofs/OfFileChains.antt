-- What is named above of the proofs of file_chains.
pub use Rattle.file_chains.proofs.Added
pub use Rattle.file_chains.proofs.Allocated
pub use Rattle.file_chains.proofs.ChainChanges
pub use Rattle.file_chains.proofs.Chosen
pub use Rattle.file_chains.proofs.FewPages
pub use Rattle.file_chains.proofs.MapRecords
pub use Rattle.file_chains.proofs.OnePage
pub use Rattle.file_chains.proofs.OneRecord
pub use Rattle.file_chains.proofs.Replaced
pub use Rattle.file_chains.proofs.Spaces
pub use Rattle.file_chains.proofs.Still
pub use Rattle.file_chains.proofs.Walks
