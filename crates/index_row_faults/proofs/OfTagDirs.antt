-- What is named above of the proofs of tag_dirs.
pub use Rattle.page_faults.proofs.OfTagDirs.Reading
