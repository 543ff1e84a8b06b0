-- What is named above of the proofs of file_chains.
pub use Rattle.fileset_shapes.proofs.OfFileChains.Added
pub use Rattle.fileset_shapes.proofs.OfFileChains.Allocated
pub use Rattle.fileset_shapes.proofs.OfFileChains.ChainChanges
pub use Rattle.fileset_shapes.proofs.OfFileChains.FewPages
pub use Rattle.fileset_shapes.proofs.OfFileChains.MapRecords
pub use Rattle.fileset_shapes.proofs.OfFileChains.Replaced
pub use Rattle.fileset_shapes.proofs.OfFileChains.Spaces
