-- What is named above of the proofs of tag_dirs.
pub use Rattle.file_release.proofs.OfTagDirs.Slots
