-- What is named above of the proofs of tag_dirs.
pub use Rattle.standing_laws.proofs.OfTagDirs.Reading
pub use Rattle.standing_laws.proofs.OfTagDirs.Slots
