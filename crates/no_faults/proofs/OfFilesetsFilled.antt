-- What is named above of the proofs of filesets_filled.
pub use Rattle.filesets_filled.proofs.PartsRead
