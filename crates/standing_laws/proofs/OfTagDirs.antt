-- What is named above of the proofs of tag_dirs.
pub use Rattle.domain_standing.proofs.OfTagDirs.Reading
pub use Rattle.domain_standing.proofs.OfTagDirs.Slots
