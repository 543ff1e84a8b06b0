-- What is named above of the proofs of fileset_files.
pub use Rattle.file_release.proofs.OfFilesetFiles.Created
pub use Rattle.file_release.proofs.OfFilesetFiles.FirstCell
pub use Rattle.file_release.proofs.OfFilesetFiles.FirstCells
pub use Rattle.file_release.proofs.OfFilesetFiles.FirstTogether
pub use Rattle.file_release.proofs.OfFilesetFiles.Grown
pub use Rattle.file_release.proofs.OfFilesetFiles.Live
pub use Rattle.file_release.proofs.OfFilesetFiles.NewDirectory
pub use Rattle.file_release.proofs.OfFilesetFiles.OneChain
pub use Rattle.file_release.proofs.OfFilesetFiles.OneFile
pub use Rattle.file_release.proofs.OfFilesetFiles.Parts
pub use Rattle.file_release.proofs.OfFilesetFiles.Placed
pub use Rattle.file_release.proofs.OfFilesetFiles.Room
pub use Rattle.file_release.proofs.OfFilesetFiles.ShownOnce
pub use Rattle.file_release.proofs.OfFilesetFiles.Tags
pub use Rattle.file_release.proofs.OfFilesetFiles.Told
pub use Rattle.file_release.proofs.OfFilesetFiles.Truncated
