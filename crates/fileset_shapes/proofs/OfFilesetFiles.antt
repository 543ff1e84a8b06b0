-- What is named above of the proofs of fileset_files.
pub use Rattle.filesets_reading.proofs.OfFilesetFiles.Created
pub use Rattle.filesets_reading.proofs.OfFilesetFiles.FirstCell
pub use Rattle.filesets_reading.proofs.OfFilesetFiles.FirstCells
pub use Rattle.filesets_reading.proofs.OfFilesetFiles.FirstTogether
pub use Rattle.filesets_reading.proofs.OfFilesetFiles.Grown
pub use Rattle.filesets_reading.proofs.OfFilesetFiles.Live
pub use Rattle.filesets_reading.proofs.OfFilesetFiles.NewDirectory
pub use Rattle.filesets_reading.proofs.OfFilesetFiles.OneChain
pub use Rattle.filesets_reading.proofs.OfFilesetFiles.OneFile
pub use Rattle.filesets_reading.proofs.OfFilesetFiles.Parts
pub use Rattle.filesets_reading.proofs.OfFilesetFiles.Placed
pub use Rattle.filesets_reading.proofs.OfFilesetFiles.Room
pub use Rattle.filesets_reading.proofs.OfFilesetFiles.ShownOnce
pub use Rattle.filesets_reading.proofs.OfFilesetFiles.Tags
pub use Rattle.filesets_reading.proofs.OfFilesetFiles.Told
pub use Rattle.filesets_reading.proofs.OfFilesetFiles.Truncated
