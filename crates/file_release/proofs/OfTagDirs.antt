-- What is named above of the proofs of tag_dirs.
pub use Rattle.fileset_files.proofs.OfTagDirs.NewPage
pub use Rattle.fileset_files.proofs.OfTagDirs.Reading
pub use Rattle.fileset_files.proofs.OfTagDirs.Slots
