-- What is named above of the proofs of tag_dirs.
pub use Rattle.page_ways.proofs.OfTagDirs.Reading
