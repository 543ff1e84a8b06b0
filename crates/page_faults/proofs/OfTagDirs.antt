-- What is named above of the proofs of tag_dirs.
pub use Rattle.tag_faults.proofs.OfTagDirs.Reading
