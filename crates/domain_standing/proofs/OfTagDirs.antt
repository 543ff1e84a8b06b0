-- What is named above of the proofs of tag_dirs.
pub use Rattle.fileset_shapes.proofs.OfTagDirs.Reading
pub use Rattle.fileset_shapes.proofs.OfTagDirs.Slots
