-- What is named above of the proofs of fileset_files.
pub use Rattle.release_list.proofs.OfFilesetFiles.Created
pub use Rattle.release_list.proofs.OfFilesetFiles.FirstCell
pub use Rattle.release_list.proofs.OfFilesetFiles.FirstRoom
pub use Rattle.release_list.proofs.OfFilesetFiles.FirstTogether
pub use Rattle.release_list.proofs.OfFilesetFiles.Grown
pub use Rattle.release_list.proofs.OfFilesetFiles.OneChain
pub use Rattle.release_list.proofs.OfFilesetFiles.OneFile
pub use Rattle.release_list.proofs.OfFilesetFiles.RemovedTogether
