-- What is named above of the proofs of fileset_files.
pub use Rattle.fileset_shapes.proofs.OfFilesetFiles.Created
pub use Rattle.fileset_shapes.proofs.OfFilesetFiles.FirstCell
pub use Rattle.fileset_shapes.proofs.OfFilesetFiles.FirstCells
pub use Rattle.fileset_shapes.proofs.OfFilesetFiles.FirstTogether
pub use Rattle.fileset_shapes.proofs.OfFilesetFiles.Grown
pub use Rattle.fileset_shapes.proofs.OfFilesetFiles.Live
pub use Rattle.fileset_shapes.proofs.OfFilesetFiles.NewDirectory
pub use Rattle.fileset_shapes.proofs.OfFilesetFiles.OneChain
pub use Rattle.fileset_shapes.proofs.OfFilesetFiles.OneFile
pub use Rattle.fileset_shapes.proofs.OfFilesetFiles.Parts
pub use Rattle.fileset_shapes.proofs.OfFilesetFiles.Placed
pub use Rattle.fileset_shapes.proofs.OfFilesetFiles.Room
pub use Rattle.fileset_shapes.proofs.OfFilesetFiles.ShownOnce
pub use Rattle.fileset_shapes.proofs.OfFilesetFiles.Tags
pub use Rattle.fileset_shapes.proofs.OfFilesetFiles.Told
pub use Rattle.fileset_shapes.proofs.OfFilesetFiles.Truncated
