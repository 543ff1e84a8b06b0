-- What is named above of the proofs of fileset_files.
pub use Rattle.domain_layout.proofs.OfFilesetFiles.Created
pub use Rattle.domain_layout.proofs.OfFilesetFiles.FirstCell
pub use Rattle.domain_layout.proofs.OfFilesetFiles.FirstCells
pub use Rattle.domain_layout.proofs.OfFilesetFiles.FirstTogether
pub use Rattle.domain_layout.proofs.OfFilesetFiles.Grown
pub use Rattle.domain_layout.proofs.OfFilesetFiles.Live
pub use Rattle.domain_layout.proofs.OfFilesetFiles.NewDirectory
pub use Rattle.domain_layout.proofs.OfFilesetFiles.OneChain
pub use Rattle.domain_layout.proofs.OfFilesetFiles.OneFile
pub use Rattle.domain_layout.proofs.OfFilesetFiles.Parts
pub use Rattle.domain_layout.proofs.OfFilesetFiles.Placed
pub use Rattle.domain_layout.proofs.OfFilesetFiles.Room
pub use Rattle.domain_layout.proofs.OfFilesetFiles.ShownOnce
pub use Rattle.domain_layout.proofs.OfFilesetFiles.Tags
pub use Rattle.domain_layout.proofs.OfFilesetFiles.Told
pub use Rattle.domain_layout.proofs.OfFilesetFiles.Truncated
