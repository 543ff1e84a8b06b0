-- What is named above of the proofs of fileset_files.
pub use Rattle.domain_standing.proofs.OfFilesetFiles.Created
pub use Rattle.domain_standing.proofs.OfFilesetFiles.FirstCell
pub use Rattle.domain_standing.proofs.OfFilesetFiles.FirstCells
pub use Rattle.domain_standing.proofs.OfFilesetFiles.FirstTogether
pub use Rattle.domain_standing.proofs.OfFilesetFiles.Grown
pub use Rattle.domain_standing.proofs.OfFilesetFiles.Live
pub use Rattle.domain_standing.proofs.OfFilesetFiles.NewDirectory
pub use Rattle.domain_standing.proofs.OfFilesetFiles.OneChain
pub use Rattle.domain_standing.proofs.OfFilesetFiles.OneFile
pub use Rattle.domain_standing.proofs.OfFilesetFiles.Parts
pub use Rattle.domain_standing.proofs.OfFilesetFiles.Placed
pub use Rattle.domain_standing.proofs.OfFilesetFiles.ShownOnce
pub use Rattle.domain_standing.proofs.OfFilesetFiles.Tags
pub use Rattle.domain_standing.proofs.OfFilesetFiles.Told
