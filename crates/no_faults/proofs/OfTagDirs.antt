-- What is named above of the proofs of tag_dirs.
pub use Rattle.domain_memory.proofs.OfTagDirs.Reading
