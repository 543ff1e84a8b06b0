-- What is named above of the proofs of file_chains.
pub use Rattle.fileset_files.proofs.OfFileChains.Added
pub use Rattle.fileset_files.proofs.OfFileChains.Allocated
pub use Rattle.fileset_files.proofs.OfFileChains.ChainChanges
pub use Rattle.fileset_files.proofs.OfFileChains.Chosen
pub use Rattle.fileset_files.proofs.OfFileChains.FewPages
pub use Rattle.fileset_files.proofs.OfFileChains.MapRecords
pub use Rattle.fileset_files.proofs.OfFileChains.OnePage
pub use Rattle.fileset_files.proofs.OfFileChains.Replaced
pub use Rattle.fileset_files.proofs.OfFileChains.Spaces
pub use Rattle.fileset_files.proofs.OfFileChains.Still
pub use Rattle.fileset_files.proofs.OfFileChains.Walks
