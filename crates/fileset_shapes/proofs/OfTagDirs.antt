-- What is named above of the proofs of tag_dirs.
pub use Rattle.filesets_reading.proofs.OfTagDirs.Reading
pub use Rattle.filesets_reading.proofs.OfTagDirs.Slots
