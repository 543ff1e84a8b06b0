-- What is named above of the proofs of tag_dirs.
pub use Rattle.tag_dirs.proofs.NewPage
pub use Rattle.tag_dirs.proofs.Reading
pub use Rattle.tag_dirs.proofs.Slots
