-- What is named above of the proofs of file_release.
pub use Rattle.release_list.proofs.OfFileRelease.Once
