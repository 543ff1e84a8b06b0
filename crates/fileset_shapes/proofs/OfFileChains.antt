-- What is named above of the proofs of file_chains.
pub use Rattle.filesets_reading.proofs.OfFileChains.Added
pub use Rattle.filesets_reading.proofs.OfFileChains.Allocated
pub use Rattle.filesets_reading.proofs.OfFileChains.ChainChanges
pub use Rattle.filesets_reading.proofs.OfFileChains.FewPages
pub use Rattle.filesets_reading.proofs.OfFileChains.MapRecords
pub use Rattle.filesets_reading.proofs.OfFileChains.Replaced
pub use Rattle.filesets_reading.proofs.OfFileChains.Spaces
pub use Rattle.filesets_reading.proofs.OfFileChains.Walks
