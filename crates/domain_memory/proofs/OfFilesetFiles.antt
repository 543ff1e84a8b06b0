-- What is named above of the proofs of fileset_files.
pub use Rattle.standing_laws.proofs.OfFilesetFiles.Created
pub use Rattle.standing_laws.proofs.OfFilesetFiles.FirstCell
pub use Rattle.standing_laws.proofs.OfFilesetFiles.FirstCells
pub use Rattle.standing_laws.proofs.OfFilesetFiles.FirstTogether
pub use Rattle.standing_laws.proofs.OfFilesetFiles.Live
pub use Rattle.standing_laws.proofs.OfFilesetFiles.NewDirectory
pub use Rattle.standing_laws.proofs.OfFilesetFiles.OneChain
pub use Rattle.standing_laws.proofs.OfFilesetFiles.OneFile
pub use Rattle.standing_laws.proofs.OfFilesetFiles.Parts
pub use Rattle.standing_laws.proofs.OfFilesetFiles.ShownOnce
pub use Rattle.standing_laws.proofs.OfFilesetFiles.Tags
